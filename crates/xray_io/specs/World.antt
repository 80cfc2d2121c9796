-- What is seen of the world at one moment: what the desk and the two streams report.
use Rattle.std.specs.Prelude.{ℕ, List, Option}
use Rattle.xray_io.specs.Desk.{Entry}

-- a desk: what it reports of each name, and how many reads and writes have failed
pub record DeskView : Type 0 where
  pub held : List ℕ → Entry
  pub read_faults : ℕ
  pub write_faults : ℕ

-- a sink: all that was written to it, if it reports that, and how many writes have failed
pub record SinkView : Type 0 where
  pub written : Option (List ℕ)
  pub faults : ℕ

-- the desk, the standard output and the standard error
pub record World : Type 0 where
  pub desk : DeskView
  pub out : SinkView
  pub err : SinkView

-- what a desk reports, by the meanings of its trait
abbrev pub desk_view : {D : Type 0} → (D → List ℕ → Entry) → (D → ℕ) → (D → ℕ) → D → DeskView
desk_view held read_faults write_faults desk = record { held = held desk; read_faults = read_faults desk; write_faults = write_faults desk }

-- what a sink reports, by the meanings of its trait
abbrev pub sink_view : {S : Type 0} → (S → Option (List ℕ)) → (S → ℕ) → S → SinkView
sink_view written faults sink = record { written = written sink; faults = faults sink }
