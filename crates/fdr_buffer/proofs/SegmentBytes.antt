-- The bytes of a segment say its events.
use Rattle.std.proofs.Common.{◌≡◌, ℕ, ◌+◌, ◌-◌, ◌*◌, ◌/◌, ◌%◌, ◌^◌, ◌<◌, ◌≤◌, false, List, [], ◌∷◌, ◌++◌, get_or, Option, Some, None, refl, sym, ap, ◌∙◌, arith, inl, inr, eq-eqb, lit<, All}
use Rattle.std.proofs.lemmas.Bool.{cases_Bool}
use Rattle.std.proofs.lemmas.Bool.Decides.{eqb_tells, nat_tests}
use Rattle.std.proofs.lemmas.List.Concat.{flat_map-append}
use Rattle.std.specs.List.{AllByRecursion}
use Rattle.std.proofs.lemmas.List.Elements.{recursion_from_All}
use Rattle.byteorder.specs.Numbers.{little_number-reads_back}
use Rattle.fdr_record.specs.declared.event.Kind.{Kind}
use Rattle.fdr_record.specs.declared.event.Kind.TheVariants.{Entry, Exit, TailExit, EntryArgs}
use Rattle.fdr_record.specs.declared.event.Event.{Event}
use Rattle.fdr_record.specs.declared.rec.Rec.TheVariants.{NewCpu, TscWrap, Function}
use Rattle.fdr_record.specs.Records.{action_of, head_of, record_bytes}
use Rattle.fdr_record.specs.Recordable.{ArgFits}
use Rattle.fdr_buffer.specs.Segments.{arg_records, function_records, is_out_of_reach, records_on_new_cpu, records_on_same_cpu, records_of, records_after, bytes_of, segment_bytes, EventFits}
use Rattle.fdr_buffer.specs.private.Telling.{kind_told, bytes_left, event_first, events_after, events_in}

after_both : (cpu cpu' tsc tsc' : ℕ) (rest : List ℕ) → cpu ≡ cpu' → tsc ≡ tsc' → events_after 0 cpu tsc rest ≡ events_after 0 cpu' tsc' rest
after_both cpu cpu' tsc tsc' rest e f = rw (e, f) refl

cpu_told : (cpu tsc c t : ℕ) (rest : List ℕ) → c < 2 ^ 16 → t < 2 ^ 64 → events_after 0 cpu tsc (record_bytes (NewCpu c t) ++ rest) ≡ events_after 0 c t rest
unfolding events_after
cpu_told cpu tsc c t rest lt lt' =
    after_both _ c _ t rest (little_number-reads_back 2 c [] lt) (little_number-reads_back 8 t [] lt')

wrap_told : (cpu tsc t : ℕ) (rest : List ℕ) → t < 2 ^ 64 → events_after 0 cpu tsc (record_bytes (TscWrap t) ++ rest) ≡ events_after 0 cpu t rest
unfolding events_after
wrap_told cpu tsc t rest lt = after_both cpu cpu _ t rest refl (little_number-reads_back 8 t [] lt)

-- what a function record and the bytes after it say, by its fields; some of these bytes are its own
event_made : (cpu tsc func func' delta delta' : ℕ) (told : Option Kind) (kind' : Kind) (following own : List ℕ) → func ≡ func' → told ≡ Some kind' → delta ≡ delta'
    → event_first cpu func (tsc + delta) told following (events_after (bytes_left told) cpu (tsc + delta) own)
    ≡ event_first cpu func' (tsc + delta') (Some kind') following (events_after (bytes_left (Some kind')) cpu (tsc + delta') own)
event_made cpu tsc func func' delta delta' told kind' following own e f g = rw (e, f, g) refl

-- an event by its argument
event_with : (cpu func tsc x arg : ℕ) (kind : Kind) (events : List Event) → x ≡ arg
    → record { cpu = cpu; func = func; kind = kind; tsc = tsc; arg = x } ∷ events ≡ record { cpu = cpu; func = func; kind = kind; tsc = tsc; arg = arg } ∷ events
event_with cpu func tsc x arg kind events is = rw is refl

-- the bytes of a function record after the first one, and those behind it
abbrev after_first : (ℕ → ℕ) → List ℕ → List ℕ
after_first byte following = byte 1 ∷ byte 2 ∷ byte 3 ∷ byte 4 ∷ byte 5 ∷ byte 6 ∷ byte 7 ∷ following

-- the event of a function record, of which the first byte was read, and of the argument that follows it
event_read : (kind : Kind) (cpu func tsc arg : ℕ) (byte : ℕ → ℕ) (rest : List ℕ) → arg < 2 ^ 64 → ArgFits kind arg
    → (let following = bytes_of (arg_records kind arg) ++ rest in event_first cpu func tsc (Some kind) following (events_after (bytes_left (Some kind)) cpu tsc (after_first byte following)))
    ≡ record { cpu = cpu; func = func; kind = kind; tsc = tsc; arg = arg } ∷ events_after 0 cpu tsc rest
unfolding events_after
event_read Entry cpu func tsc arg byte rest lt none = event_with cpu func tsc 0 arg Entry _ (sym none)
event_read Exit cpu func tsc arg byte rest lt none = event_with cpu func tsc 0 arg Exit _ (sym none)
event_read TailExit cpu func tsc arg byte rest lt none = event_with cpu func tsc 0 arg TailExit _ (sym none)
event_read EntryArgs cpu func tsc arg byte rest lt any = event_with cpu func tsc _ arg EntryArgs _ (little_number-reads_back 8 arg [] lt)

action_small : (kind : Kind) → action_of kind < 8
action_small Entry = omega arith
action_small Exit = omega arith
action_small TailExit = omega arith
action_small EntryArgs = omega arith

kind_back : (kind : Kind) → kind_told (action_of kind) ≡ Some kind
kind_back Entry = refl
kind_back Exit = refl
kind_back TailExit = refl
kind_back EntryArgs = refl

action_back : (action func : ℕ) → action < 8 → (2 * action + 16 * func) % 256 / 2 % 8 ≡ action
action_back action func lt = omega arith

head_even : (action func : ℕ) → (2 * action + 16 * func) % 256 % 2 ≡ 0
head_even action func = omega arith

head_func : (action func : ℕ) → action < 8 → (2 * action + 16 * func) / 16 ≡ func
head_func action func lt = omega arith

head_fits : (action func : ℕ) → action < 8 → func < 2 ^ 28 → 2 * action + 16 * func < 256 ^ 4
head_fits action func lt lt' = omega arith

function_told : (cpu tsc func delta arg : ℕ) (kind : Kind) (rest : List ℕ) → func < 2 ^ 28 → delta < 2 ^ 32 → arg < 2 ^ 64 → ArgFits kind arg
    → events_after 0 cpu tsc (record_bytes (Function kind func delta) ++ (bytes_of (arg_records kind arg) ++ rest))
    ≡ record { cpu = cpu; func = func; kind = kind; tsc = tsc + delta; arg = arg } ∷ events_after 0 cpu (tsc + delta) rest
unfolding events_after
function_told cpu tsc func delta arg kind rest fits lt arg_fits logged =
    let small = action_small kind in
    let even = eq-eqb (head_of kind func % 256 % 2) 0 (head_even (action_of kind) func) in
    let head = little_number-reads_back 4 (head_of kind func) [] (head_fits (action_of kind) func small fits) in
    let byte : ℕ → ℕ = λ i. get_or (record_bytes (Function kind func delta)) i 0 in
    let following = bytes_of (arg_records kind arg) ++ rest in
    rw even (event_made cpu tsc _ func _ delta _ kind following (after_first byte following) (ap (λ (n : ℕ). n / 16) head ∙ head_func (action_of kind) func small) (ap kind_told (action_back (action_of kind) func small) ∙ kind_back kind) (little_number-reads_back 4 delta [] lt)
    ∙ event_read kind cpu func (tsc + delta) arg byte rest arg_fits logged)

-- an event by its parts
event_is : (event : Event) (cpu tsc : ℕ) (rest : List ℕ) → cpu ≡ event.cpu → tsc ≡ event.tsc
    → record { cpu = cpu; func = event.func; kind = event.kind; tsc = tsc; arg = event.arg } ∷ events_after 0 cpu tsc rest ≡ event ∷ events_after 0 event.cpu event.tsc rest
event_is event cpu tsc rest e f = rw (e, f) refl

new_cpu_told : (cpu tsc : ℕ) (event : Event) (rest : List ℕ) → EventFits event → events_after 0 cpu tsc (bytes_of (records_on_new_cpu event) ++ rest) ≡ event ∷ events_after 0 event.cpu event.tsc rest
new_cpu_told cpu tsc event rest fits =
    cpu_told cpu tsc event.cpu event.tsc (bytes_of (function_records event 0) ++ rest) fits.cpu fits.tsc
    ∙ function_told event.cpu event.tsc event.func 0 event.arg event.kind rest fits.func (lit< tt) fits.arg fits.logged
    ∙ event_is event event.cpu (event.tsc + 0) rest refl (omega arith)

within_reach : (before tsc : ℕ) → is_out_of_reach before tsc ≡ false → (before ≤ tsc) × (tsc ≤ before + (2 ^ 32 - 1))
within_reach before tsc h = grind (arith, nat_tests)

same_cpu_told : (cpu tsc : ℕ) (event : Event) (rest : List ℕ) → cpu ≡ event.cpu → EventFits event → events_after 0 cpu tsc (bytes_of (records_on_same_cpu tsc event) ++ rest) ≡ event ∷ events_after 0 event.cpu event.tsc rest
same_cpu_told cpu tsc event rest same fits =
    elim (cases_Bool (is_out_of_reach tsc event.tsc)) [
      | inl out ↦ rw out (wrap_told cpu tsc event.tsc (bytes_of (function_records event 0) ++ rest) fits.tsc
          ∙ function_told cpu event.tsc event.func 0 event.arg event.kind rest fits.func (lit< tt) fits.arg fits.logged
          ∙ event_is event cpu (event.tsc + 0) rest same (omega arith))
      | inr reached ↦
          let reach = within_reach tsc event.tsc reached in
          rw reached (function_told cpu tsc event.func (event.tsc - tsc) event.arg event.kind rest fits.func (omega (arith, reach.0, reach.1)) fits.arg fits.logged
          ∙ event_is event cpu (tsc + (event.tsc - tsc)) rest same (omega (arith, reach.0)))
    ]

-- the CPU and the counter are those of the event before, if there is one
abbrev IsBehind : Option Event → ℕ → ℕ → Type 0
IsBehind None cpu tsc = Unit {0}
IsBehind (Some event) cpu tsc = (cpu ≡ event.cpu) × (tsc ≡ event.tsc)

event_told : (before : Option Event) (cpu tsc : ℕ) (event : Event) (rest : List ℕ) → IsBehind before cpu tsc → EventFits event → events_after 0 cpu tsc (bytes_of (records_of before event) ++ rest) ≡ event ∷ events_after 0 event.cpu event.tsc rest
event_told None cpu tsc event rest following fits = new_cpu_told cpu tsc event rest fits
event_told (Some before) cpu tsc event rest following fits =
    elim (eqb_tells before.cpu event.cpu) [
      | inl same ↦ rw (following.0, following.1, same.0) (same_cpu_told before.cpu before.tsc event rest same.1 fits)
      | inr other ↦ rw other.0 (new_cpu_told cpu tsc event rest fits)
    ]

events_told_after : (before : Option Event) (cpu tsc : ℕ) (events : List Event) → IsBehind before cpu tsc → AllByRecursion EventFits events → events_after 0 cpu tsc (bytes_of (records_after before events)) ≡ events
unfolding events_after
events_told_after before cpu tsc [] following fit = refl
events_told_after before cpu tsc (event ∷ events) following fit =
    ap (events_after 0 cpu tsc) (flat_map-append record_bytes (records_of before event) (records_after (Some event) events))
    ∙ event_told before cpu tsc event (bytes_of (records_after (Some event) events)) following fit.0
    ∙ ap (λ (es : List Event). event ∷ es) (events_told_after (Some event) event.cpu event.tsc events (refl, refl) fit.1)

pub segment_told : (events : List Event) → All EventFits events → events_in (segment_bytes events) ≡ events
unfolding events_in
segment_told events fit = events_told_after None 0 0 events tt (recursion_from_All EventFits events fit)

pub nothing_told : events_in [] ≡ []
unfolding events_in events_after
nothing_told = refl
