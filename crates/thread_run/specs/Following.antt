-- The loads of a thread by its seat.
use Rattle.std.specs.Prelude.{◌&&◌, ◌==◌, ℕ, List, map, Bool}
use Rattle.std.specs.List.{list_any}
use Rattle.xray_image.specs.Program.{Program}
use Rattle.sled_words.specs.Words.{release_word}
use Rattle.machine_step.specs.Loads.{Load}
use Rattle.sled_rule.specs.declared.views.Load.{Load as SeatLoad}

-- the loads of a seat, as a thread gets them
abbrev pub given : List SeatLoad → List Load
given loads = map (λ load. record { word = load.word; value = load.value }) loads

-- among the loads of a seat is one that found a thread's release word at 0, so that it held the thread
abbrev pub is_held_by : Program → ℕ → List SeatLoad → Bool
is_held_by program thread loads = list_any (λ load. (load.word == release_word program thread) && (load.value == 0)) loads
