-- The trees of passings read loads as the machine does.
use Rattle.std.proofs.Common.{◌≡◌, ℕ, suc, ◌+◌, ◌==◌, Bool, true, false, List, [], ◌∷◌, ◌++◌, length, Option, refl, ap, ◌∙◌, arith}
use Rattle.std.specs.Prelude.{if◌then◌else◌}
use Rattle.xray_image.specs.Program.{Program}
use Rattle.handler_word.specs.declared.mark.Mark.{Mark}
use Rattle.handler_word.specs.declared.mark.Mark.TheVariants as marks
use Rattle.sled_words.specs.Parts.{patched_head}
use Rattle.machine_step.specs.Loads.{Load, Reading, Wants, Marked, from_arg_handler, from_handler, from_handlers, from_head, from_id, from_release, from_start, from_state, is_held_at, marks_from, next_from, sled_logs_args}
use Rattle.audit_check.specs.private.Ways.{Tree, Leaf, arg_handler_tree, handler_tree, handlers_tree, head_tree, id_tree, marks_in, next_in, passing_tree, read, state_tree, trees_of}

-- ---- one passing

-- a choice of trees is a choice of readings
either_reads : (b : Bool) (t u : Tree) (loads : List Load) (x y : Reading) → read loads t ≡ x → read loads u ≡ y
    → read loads (if b then t else u) ≡ (if b then x else y)
either_reads true t u loads x y e f = e
either_reads false t u loads x y e f = f

state_reads : (program : Program) (recording : Mark) (loads : List Load)
    → read loads (state_tree program recording) ≡ from_state program recording loads
state_reads program recording [] = refl
state_reads program recording (load ∷ loads) = refl

handler_reads : (program : Program) (loads : List Load) → read loads (handler_tree program) ≡ from_handler program loads
handler_reads program [] = refl
handler_reads program (load ∷ loads) =
    either_reads (load.value == 0) (Leaf marks.NoHandler) (state_tree program marks.Recorded) loads (Marked marks.NoHandler loads)
    (from_state program marks.Recorded loads) refl (state_reads program marks.Recorded loads)

arg_handler_reads : (program : Program) (threads : ℕ) (loads : List Load)
    → read loads (arg_handler_tree program threads) ≡ from_arg_handler program threads loads
arg_handler_reads program threads [] = refl
arg_handler_reads program threads (load ∷ loads) =
    either_reads (load.value == 0) (handler_tree program) (state_tree program marks.RecordedArg) loads (from_handler program loads)
    (from_state program marks.RecordedArg loads) (handler_reads program loads) (state_reads program marks.RecordedArg loads)

handlers_reads : (program : Program) (threads sled : ℕ) (loads : List Load)
    → read loads (handlers_tree program threads sled) ≡ from_handlers program threads sled loads
handlers_reads program threads sled loads =
    either_reads (sled_logs_args program sled) (arg_handler_tree program threads) (handler_tree program) loads
    (from_arg_handler program threads loads) (from_handler program loads) (arg_handler_reads program threads loads) (handler_reads program loads)

id_reads : (program : Program) (threads sled : ℕ) (loads : List Load)
    → read loads (id_tree program threads sled) ≡ from_id program threads sled loads
id_reads program threads sled [] = refl
id_reads program threads sled (id ∷ []) = refl
id_reads program threads sled (id ∷ opcode ∷ []) = refl
id_reads program threads sled (id ∷ opcode ∷ offset ∷ loads) = handlers_reads program threads sled loads

head_reads : (program : Program) (threads sled : ℕ) (loads : List Load)
    → read loads (head_tree program threads sled) ≡ from_head program threads sled loads
head_reads program threads sled [] = refl
head_reads program threads sled (load ∷ loads) =
    either_reads (load.value == patched_head) (id_tree program threads sled) (Leaf marks.Skipped) loads
    (from_id program threads sled loads) (Marked marks.Skipped loads) (id_reads program threads sled loads) refl

both_if : (b : Bool) (x y z w : Reading) → x ≡ z → y ≡ w → (if b then x else y) ≡ (if b then z else w)
both_if true x y z w e f = e
both_if false x y z w e f = f

release_reads : (program : Program) (threads thread sled : ℕ) (loads : List Load)
    → read loads (passing_tree program threads thread true sled) ≡ from_release program threads thread sled loads
release_reads program threads thread sled [] = refl
release_reads program threads thread sled (load ∷ loads) =
    both_if (load.value == 0) _ _ _ _ (release_reads program threads thread sled loads) (head_reads program threads sled loads)

pub passing_reads : (program : Program) (threads thread : ℕ) (held : Bool) (sled : ℕ) (loads : List Load)
    → read loads (passing_tree program threads thread held sled) ≡ from_start program threads thread held sled loads
passing_reads program threads thread true sled loads = release_reads program threads thread sled loads
passing_reads program threads thread false sled loads = head_reads program threads sled loads

-- ---- all passings

pub marks_are : (program : Program) (threads thread : ℕ) (hold : Option ℕ) (number : ℕ) (sleds : List ℕ) (loads : List Load)
    → marks_in (trees_of program threads thread hold number sleds) loads ≡ marks_from program threads thread hold number sleds loads
marks_are program threads thread hold number [] loads = refl
marks_are program threads thread hold number (sled ∷ sleds) loads =
    by_reading (λ later. marks_are program threads thread hold (number + 1) sleds later)
    (from_start program threads thread (is_held_at hold number) sled loads)
    (read loads (passing_tree program threads thread (is_held_at hold number) sled)) refl refl
    (passing_reads program threads thread (is_held_at hold number) sled loads)
  where
    by_reading : ((later : List Load) → marks_in (trees_of program threads thread hold (number + 1) sleds) later
        ≡ marks_from program threads thread hold (number + 1) sleds later)
        → (r s : Reading) → from_start program threads thread (is_held_at hold number) sled loads ≡ r
        → read loads (passing_tree program threads thread (is_held_at hold number) sled) ≡ s → s ≡ r
        → marks_in (trees_of program threads thread hold number (sled ∷ sleds)) loads ≡ marks_from program threads thread hold number (sled ∷ sleds) loads
    by_reading later (Wants word recording) s e f is = rw (e, f ∙ is) refl
    by_reading later (Marked mark following) s e f is = rw (e, f ∙ is) (ap (λ (ms : List Mark). mark ∷ ms) (later following))

pub next_is : (program : Program) (threads thread : ℕ) (hold : Option ℕ) (number : ℕ) (sleds : List ℕ) (loads : List Load)
    → next_in (trees_of program threads thread hold number sleds) loads ≡ next_from program threads thread hold number sleds loads
next_is program threads thread hold number [] loads = refl
next_is program threads thread hold number (sled ∷ sleds) loads =
    by_reading (λ later. next_is program threads thread hold (number + 1) sleds later)
    (from_start program threads thread (is_held_at hold number) sled loads)
    (read loads (passing_tree program threads thread (is_held_at hold number) sled)) refl refl
    (passing_reads program threads thread (is_held_at hold number) sled loads)
  where
    by_reading : ((later : List Load) → next_in (trees_of program threads thread hold (number + 1) sleds) later
        ≡ next_from program threads thread hold (number + 1) sleds later)
        → (r s : Reading) → from_start program threads thread (is_held_at hold number) sled loads ≡ r
        → read loads (passing_tree program threads thread (is_held_at hold number) sled) ≡ s → s ≡ r
        → next_in (trees_of program threads thread hold number (sled ∷ sleds)) loads ≡ next_from program threads thread hold number (sled ∷ sleds) loads
    by_reading later (Wants word recording) s e f is = rw (e, f ∙ is) refl
    by_reading later (Marked mark following) s e f is = rw (e, f ∙ is) (later following)

pub as_many : (program : Program) (threads thread : ℕ) (hold : Option ℕ) (number : ℕ) (sleds : List ℕ)
    → length (trees_of program threads thread hold number sleds) ≡ length sleds
as_many program threads thread hold number [] = refl
as_many program threads thread hold number (sled ∷ sleds) = ap suc (as_many program threads thread hold (number + 1) sleds)

-- the tree of one more passing
pub trees-append : (program : Program) (threads thread : ℕ) (hold : Option ℕ) (number : ℕ) (sleds : List ℕ) (sled : ℕ)
    → trees_of program threads thread hold number (sleds ++ sled ∷ [])
    ≡ trees_of program threads thread hold number sleds
    ++ passing_tree program threads thread (is_held_at hold (number + length sleds)) sled ∷ []
trees-append program threads thread hold number [] sled =
    let same : number ≡ number + 0 = omega arith in
    ap (λ n. passing_tree program threads thread (is_held_at hold n) sled ∷ []) same
trees-append program threads thread hold number (first ∷ sleds) sled =
    let count : number + 1 + length sleds ≡ number + length (first ∷ sleds) = omega arith in
    ap (λ (ts : List Tree). passing_tree program threads thread (is_held_at hold number) first ∷ ts)
    (trees-append program threads thread hold (number + 1) sleds sled
    ∙ ap (λ n. trees_of program threads thread hold (number + 1) sleds ++ passing_tree program threads thread (is_held_at hold n) sled ∷ []) count)
