use Rattle.std.proofs.lemmas.Option.{slice_get-get_or}
use Rattle.audit_check.proofs.AllSearches.{added_next}
use Rattle.audit_check.proofs.FollowerGuesses.{same_then}
use Rattle.audit_check.proofs.follower.Follower.add_all.Goals as goal
