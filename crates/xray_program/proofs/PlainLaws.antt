-- `plain`: the texts of threads are there, and are only one thing.
use Rattle.std.proofs.Common.{◌≡◌, ◌+◌, ◌∙◌, ℕ, List, refl, sym, ap}
use Rattle.std.specs.List.{flat_map}
use Rattle.machine_step.specs.declared.end.End.{End}
use Rattle.machine_step.specs.declared.limits.Limits.{Limits}
use Rattle.machine_step.specs.PlainStep.{Passing, PlainRun, State}
use Rattle.machine_step.specs.Texts.{plain_text}
use Rattle.xray_image.specs.Program.{Program, IsAccepted}
use Rattle.xray_program.specs.Plain.{IsPlainText, PlainPrints}
use Rattle.xray_program.specs.Setups.{plain_limits}
use Rattle.command_words.specs.declared.run_options.Bounds.{Bounds}
use Rattle.xray_program.proofs.TextLists.{made, made_first, made_length, same_list}

-- what the machine says: the plain run of a thread of an accepted image has one end, and has an end
abbrev pub OneEnd : Type 0
OneEnd = (bytes : List ℕ) (program : Program) (limits : Limits) (thread : ℕ) (passed passed' : List Passing) (end end' : End)
    (last last' : State) → IsAccepted bytes program → PlainRun program limits thread passed end last
    → PlainRun program limits thread passed' end' last' → (passed ≡ passed') × (end ≡ end') × (last ≡ last')

abbrev pub SomeEnd : Type 0
SomeEnd = (bytes : List ℕ) (program : Program) (limits : Limits) (thread : ℕ) → IsAccepted bytes program
    → (passed : List Passing) × (end : End) × (last : State) × PlainRun program limits thread passed end last

-- a plain run: its passings, its end and its last state
abbrev pub Core : Type 0
Core = List Passing × End × State

abbrev pub IsCore : Program → Limits → ℕ → Core → Type 0
IsCore program limits i c = PlainRun program limits (i + 1) c.0 c.1 c.2

pub one_core : OneEnd → (bytes : List ℕ) (program : Program) (limits : Limits) (i : ℕ) (c d : Core) → IsAccepted bytes program
    → IsCore program limits i c → IsCore program limits i d → c ≡ d
one_core one_end bytes program limits i (passed, end, last) (passed', end', last') accepted p q =
    let same = one_end bytes program limits (i + 1) passed passed' end end' last last' accepted p q in
    rw (same.0, same.1, same.2) refl

-- the plain run of the thread of a place
pub some_core : SomeEnd → (bytes : List ℕ) (program : Program) (limits : Limits) → IsAccepted bytes program → (i : ℕ)
    → (c : Core) × IsCore program limits i c
some_core some bytes program limits accepted i =
    let run = some bytes program limits (i + 1) accepted in
    ((run.0, run.1, run.2), run.3)

pub one_plain : OneEnd → (bytes : List ℕ) (program : Program) (bounds : Bounds) (x y : List ℕ)
    → IsAccepted bytes program → PlainPrints program bounds x → PlainPrints program bounds y → x ≡ y
one_plain one_end bytes program bounds x y accepted p q =
    p.joined ∙ ap (flat_map (λ t. t)) (same_list (λ i. IsPlainText program (plain_limits bounds) (i + 1)) one_text p.texts q.texts p.each q.each (p.count ∙ sym q.count))
    ∙ sym q.joined
  where
    one_text : (i : ℕ) (t u : List ℕ) → IsPlainText program (plain_limits bounds) (i + 1) t → IsPlainText program (plain_limits bounds) (i + 1) u → t ≡ u
    one_text i t u a b =
        let same = one_end bytes program (plain_limits bounds) (i + 1) a.passed b.passed a.end b.end a.last b.last accepted a.run b.run in
        a.prints ∙ rw (same.1, same.2) refl ∙ sym b.prints

pub some_plain : SomeEnd → (bytes : List ℕ) (program : Program) (bounds : Bounds) → IsAccepted bytes program
    → (text : List ℕ) × PlainPrints program bounds text
some_plain some bytes program bounds accepted =
    let limits : Limits = plain_limits bounds in
    let run : (i : ℕ) → (c : Core) × IsCore program limits i c = some_core some bytes program limits accepted in
    let item : ℕ → List ℕ = λ i. plain_text (i + 1) (run i).0.1 (run i).0.2 in
    let texts : List (List ℕ) = made item 0 bounds.threads in (
      flat_map (λ t. t) texts,
      record {
        texts = texts;
        count = made_length item 0 bounds.threads;
        each = λ k t at. record {
          passed = (run k).0.0;
          end = (run k).0.1;
          last = (run k).0.2;
          run = (run k).1;
          prints = sym (made_first item bounds.threads k t at);
        };
        joined = refl;
      },
    )
