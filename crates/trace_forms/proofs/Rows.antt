-- Rows, which are put together from their end to their start.
use Rattle.std.proofs.Common.{◌≡◌, ℕ, ◌++◌, ◌∙◌, List, [], refl, append_assoc}
use Rattle.std.specs.Prelude.{codes, decimal, Some}
use Rattle.json.specs.Print.{escape}
use Rattle.fdr_record.specs.declared.event.Event.{Event}
use Rattle.fdr_record.specs.declared.event.Kind.{Kind}
use Rattle.fdr_record.specs.declared.rec.Rec.{Rec}
use Rattle.fdr_record.specs.declared.rec.Rec.TheVariants.{Function}
use Rattle.fdr_file.specs.ThreadEvents.{ThreadEvent}
use Rattle.map_names.specs.Naming.{Naming}
use Rattle.function_names.specs.Name.{plain_name}
use Rattle.trace_forms.specs.Dumps.{kind_word, record_line, record_text}
use Rattle.trace_forms.specs.TraceEvents.{phase_text}
use Rattle.trace_forms.specs.private.Texts.{arg_shown, arg_start, event_end, event_json, event_start}

-- ---- a line of a dump

-- the line of a record
pub line_row : (at n : ℕ) (rec : Rec) (r r1 r2 r3 r4 : List ℕ) → n ≡ at → r ≡ [] → r1 ≡ codes "\n" ++ r → r2 ≡ record_text rec ++ r1
    → r3 ≡ codes " " ++ r2 → r4 ≡ decimal n ++ r3 → r4 ≡ record_line at rec
line_row at n rec r r1 r2 r3 r4 same e e1 e2 e3 e4 = rw (e4, e3, e2, e1, e, same) (simp append_assoc)

-- a name and a number
pub one_row : (name : List ℕ) (n : ℕ) (r r1 r2 : List ℕ) → r1 ≡ decimal n ++ r → r2 ≡ name ++ r1 → r2 ≡ name ++ decimal n ++ r
one_row name n r r1 r2 e1 e2 = rw (e2, e1) (simp append_assoc)

-- a name and two numbers
pub two_row : (name between : List ℕ) (m n : ℕ) (r r1 r2 r3 r4 : List ℕ) → r1 ≡ decimal n ++ r → r2 ≡ between ++ r1 → r3 ≡ decimal m ++ r2 → r4 ≡ name ++ r3
    → r4 ≡ name ++ decimal m ++ between ++ decimal n ++ r
two_row name between m n r r1 r2 r3 r4 e1 e2 e3 e4 = rw (e4, e3, e2, e1) (simp append_assoc)

function_parts : (name kind blank a between b r : List ℕ)
    → name ++ kind ++ blank ++ (a ++ (between ++ (b ++ r))) ≡ name ++ kind ++ blank ++ a ++ between ++ b ++ r
function_parts name kind blank a between b r = simp append_assoc

-- a function record
pub function_row : (kind : Kind) (m func n delta : ℕ) (r r1 r2 r3 r4 : List ℕ) → m ≡ func → n ≡ delta → r1 ≡ decimal n ++ r → r2 ≡ codes " delta " ++ r1
    → r3 ≡ decimal m ++ r2 → r4 ≡ codes "function " ++ kind_word kind ++ codes " " ++ r3 → r4 ≡ record_text (Function kind func delta) ++ r
function_row kind m func n delta r r1 r2 r3 r4 same_func same_delta e1 e2 e3 e4 =
    rw (e4, e3, e2, e1, same_func, same_delta) (function_parts (codes "function ") (kind_word kind) (codes " ") (decimal func) (codes " delta ") (decimal delta) r)

-- ---- a trace event

-- its argument
pub arg_row : (arg : ℕ) (r r1 r2 r3 : List ℕ) → r1 ≡ codes "},\"cpu\":" ++ r → r2 ≡ decimal arg ++ r1 → r3 ≡ codes "{\"args\":{\"arg\":" ++ r2
    → r3 ≡ arg_start (Some arg) ++ r
arg_row arg r r1 r2 r3 e1 e2 e3 = rw (e3, e2, e1) (simp append_assoc)

-- the text before its name
pub start_row : (before : List ℕ) (event : Event) (cpu : ℕ) (r r1 r2 r3 r4 : List ℕ) → cpu ≡ event.cpu → r ≡ [] → r1 ≡ codes ",\"name\":\"" ++ r
    → r2 ≡ decimal cpu ++ r1 → r3 ≡ arg_start (arg_shown event.kind event.arg) ++ r2 → r4 ≡ before ++ r3 → r4 ≡ before ++ event_start event
start_row before event cpu r r1 r2 r3 r4 same e e1 e2 e3 e4 = rw (e4, e3, e2, e1, e, same) refl

-- the text after its name
pub end_row : (e : ThreadEvent) (pid thread : ℕ) (r r1 r2 r3 r4 r5 r6 r7 r8 r9 : List ℕ) → pid ≡ e.pid → thread ≡ e.thread → r ≡ [] → r1 ≡ codes "}" ++ r
    → r2 ≡ decimal e.event.tsc ++ r1 → r3 ≡ codes ",\"ts\":" ++ r2 → r4 ≡ decimal thread ++ r3 → r5 ≡ codes ",\"tid\":" ++ r4 → r6 ≡ decimal pid ++ r5
    → r7 ≡ codes "\",\"pid\":" ++ r6 → r8 ≡ phase_text e.event.kind ++ r7 → r9 ≡ codes "\",\"ph\":\"" ++ r8 → r9 ≡ event_end e
end_row e pid thread r r1 r2 r3 r4 r5 r6 r7 r8 r9 same_pid same_thread e0 e1 e2 e3 e4 e5 e6 e7 e8 e9 =
    rw (e9, e8, e7, e6, e5, e4, e3, e2, e1, e0, same_pid, same_thread) refl

-- an event is put together of its parts
pub event_parts : (before : List ℕ) (names : Naming) (e : ThreadEvent)
    → (before ++ event_start e.event) ++ (escape (plain_name names e.event.func) ++ event_end e) ≡ before ++ event_json names e
event_parts before names e = append_assoc before (event_start e.event) (escape (plain_name names e.event.func) ++ event_end e)

pub event_parts_left : (before : List ℕ) (names : Naming) (e : ThreadEvent)
    → ((before ++ event_start e.event) ++ escape (plain_name names e.event.func)) ++ event_end e ≡ before ++ event_json names e
event_parts_left before names e =
    append_assoc (before ++ event_start e.event) (escape (plain_name names e.event.func)) (event_end e) ∙ event_parts before names e
