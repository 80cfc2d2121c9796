-- A name between quotation marks, read letter by letter.
use Rattle.std.proofs.Common.{◌≡◌, ◌<◌, ◌≤◌, ◌+◌, ◌++◌, ◌∷◌, ◌∙◌, ℕ, Bool, true, false, List, [], Option, Some, None, length, get_or, drop, refl, sym, ap, add-one, drop-cons, append_assoc}
use Rattle.std.specs.Prelude.{option_map, option_and_then, if◌then◌else◌}
use Rattle.std.proofs.lemmas.List.{append-nil, drop_all}
use Rattle.map_names.specs.declared.quote.Added.{Added}
use Rattle.map_names.specs.declared.quote.Quote.{Quote}
use Rattle.map_names.specs.Entries.{quoted_byte, quoted_from}
use Rattle.map_names.specs.private.Parts.{added_by}

-- what stands before a name that may be there
abbrev pub put : List ℕ → Option (List ℕ) → Option (List ℕ)
put front name = option_map (λ more. front ++ more) name

puts : (x y : List ℕ) (name : Option (List ℕ)) → put x (put y name) ≡ put (x ++ y) name
puts x y None = refl
puts x y (Some more) = ap Some (sym (append_assoc x y more))

-- nothing stands before it
pub put-nil : (name : Option (List ℕ)) → put [] name ≡ name
put-nil None = refl
put-nil (Some more) = refl

-- the bytes from a place on begin with the byte there
from_here : (bytes : List ℕ) (i : ℕ) → i < length bytes → drop i bytes ≡ get_or bytes i 0 ∷ drop (i + 1) bytes
from_here bytes i within = rw (add-one, drop-cons bytes i 0) refl

-- what is read from a place on, by what the byte there says
abbrev read_from : Quote → List ℕ → List ℕ → Option (List ℕ × Bool) → Option (List ℕ)
read_from quote name rest said = put name (option_and_then (λ one. option_map (λ more. one.0 ++ more) (quoted_from quote rest one.1)) said)

-- a byte was read
pub letter_added : (quote : Quote) (bytes : List ℕ) (i : ℕ) (belongs : Bool) (name : List ℕ) (said : List ℕ × Bool) → i < length bytes
    → Some said ≡ quoted_byte quote belongs (get_or bytes i 0)
    → put name (quoted_from quote (drop i bytes) belongs) ≡ put (name ++ said.0) (quoted_from quote (drop (i + 1) bytes) said.1)
unfolding quoted_from
letter_added quote bytes i belongs name said within is =
    ap (λ rest. put name (quoted_from quote rest belongs)) (from_here bytes i within)
    ∙ ap (read_from quote name (drop (i + 1) bytes)) (sym is)
    ∙ puts name said.0 (quoted_from quote (drop (i + 1) bytes) said.1)

-- a byte can't stand there
pub letter_refused : (quote : Quote) (bytes : List ℕ) (i : ℕ) (belongs : Bool) (name : List ℕ) → i < length bytes
    → None ≡ quoted_byte quote belongs (get_or bytes i 0) → put name (quoted_from quote (drop i bytes) belongs) ≡ None
unfolding quoted_from
letter_refused quote bytes i belongs name within is =
    ap (λ rest. put name (quoted_from quote rest belongs)) (from_here bytes i within)
    ∙ ap (read_from quote name (drop (i + 1) bytes)) (sym is)

-- all bytes were read
pub letters_end : (quote : Quote) (bytes : List ℕ) (i : ℕ) (belongs : Bool) (name : List ℕ) → length bytes ≤ i
    → put name (quoted_from quote (drop i bytes) belongs) ≡ (if belongs then None else Some name)
unfolding quoted_from
letters_end quote bytes i belongs name past =
    ap (λ rest. put name (quoted_from quote rest belongs)) (drop_all i bytes past) ∙ ended belongs
  where
    ended : (b : Bool) → put name (quoted_from quote [] b) ≡ (if b then None else Some name)
    ended true = refl
    ended false = ap Some (append-nil name)

-- what isn't found isn't said
pub refused_by : (found : Option Added) (said : Option (List ℕ × Bool)) → found ≡ None → option_map added_by found ≡ said → None ≡ said
refused_by found said none is = sym (ap (λ (o : Option Added). option_map added_by o) none) ∙ is
