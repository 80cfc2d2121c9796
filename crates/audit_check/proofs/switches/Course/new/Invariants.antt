use Rattle.patch_script.specs.Refusals.{commands_of}
use Rattle.audit_check.specs.private.Switches.{IsCourseUpTo}
use Rattle.audit_check.proofs.switches.Course.new.Given as goal

-- the course of the micro steps so far
abbrev pub invariant-loop-place : goal.invariant-loop-place
invariant-loop-place l = IsCourseUpTo l.image l.threads (commands_of l.script.lines) l.place l.course
