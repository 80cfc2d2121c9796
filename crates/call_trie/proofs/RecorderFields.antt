-- What the fields of a recorder are after one more event.
use Rattle.std.proofs.Common.{◌≡◌, ◌-◌, ◌^◌, ◌++◌, ◌<◌, ◌≤◌, ◌∙◌, ℕ, zero, suc, List, [], ◌∷◌, length, map, reverse, take, refl, ap, sym, subst, arith, get_or, set, length-append}
use Rattle.std.specs.Prelude.{All}
use Rattle.std.proofs.lemmas.List.{map-append, reverse-reverse, take-map}
use Rattle.std.proofs.lemmas.List.Elements.{All-cons, All-head, All-nil, All-push, All-tail, All-take, All-weaker}
use Rattle.std.proofs.lemmas.List.Sorted.{All-permutation, IsPermutation-reverse}
use Rattle.stack_rebuild.specs.declared.tally.Tally.{Tally}
use Rattle.stack_rebuild.specs.Calls.{cycles_between}
use Rattle.stack_rebuild.specs.OpenPaths.{OpenPath, innermost_path, open_from, with_spent}
use Rattle.stack_rebuild.specs.PathSums.{no_tally, path_at, with_pair}
use Rattle.stack_rebuild.specs.Stacks.{most_open}
use Rattle.call_trie.specs.declared.frames.Frame.{Frame}
use Rattle.call_trie.specs.declared.state.TrieState.{TrieState}
use Rattle.call_trie.specs.declared.state.TrieState.TheVariants.{Full, Deep}
use Rattle.call_trie.specs.private.Frames.{AreWithin, node_in, open_in, open_path}
use Rattle.call_trie.specs.private.Paths.{GetsNode, GetsNone, IsNew, Numbered, got, had}
use Rattle.call_trie.specs.private.Steps.{AreRoomy, Enters, IsRoomy, Leaves, deep, ended, fresh, full, known, none}
use Rattle.call_trie.specs.Tries.{HasSameRoom, Trie}
use Rattle.call_trie.proofs.FrameLemmas.{open_kept, open_long, open_more}
use Rattle.call_trie.proofs.NodeLemmas.{path_kept, path_last}

-- a recorder's trie, by its fields
abbrev pub trie_with : TrieState → Numbered → List Frame → Trie
trie_with state nodes frames = record { room = nodes.room; state = state; paths = nodes.paths; tallies = nodes.tallies; calls = open_in nodes.paths frames }

-- the call that an entry opens
abbrev pub opening : ℕ → ℕ → List OpenPath → OpenPath
opening func tsc calls = record { func = func; path = innermost_path calls ++ func ∷ []; tsc = tsc; spent = 0 }

abbrev pub opening_frame : ℕ → ℕ → ℕ → Frame
opening_frame n func tsc = record { node = n; func = func; tsc = tsc; spent = 0 }

-- ---- an entry

pub entered_deep : (old : Trie) (state : TrieState) (nodes : Numbered) (frames : List Frame) (func tsc : ℕ) → trie_with state nodes frames ≡ old → most_open ≤ length frames
    → Enters (opening func tsc old.calls) old (trie_with Deep nodes frames)
entered_deep old state nodes frames func tsc view many =
    subst (λ (t : Trie). Enters (opening func tsc t.calls) t (trie_with Deep nodes frames)) view
    (deep (omega (arith, many, open_long nodes.paths frames)) refl)

pub entered_full : (old : Trie) (state : TrieState) (nodes nodes' : Numbered) (frames : List Frame) (parent func tsc : ℕ) → trie_with state nodes frames ≡ old
    → length frames < most_open → path_at nodes.paths parent ≡ innermost_path (open_in nodes.paths frames) → GetsNone (path_at nodes.paths parent ++ func ∷ []) nodes nodes'
    → Enters (opening func tsc old.calls) old (trie_with Full nodes' frames)
entered_full old state nodes nodes' frames parent func tsc view few top gets =
    subst (λ (t : Trie). Enters (opening func tsc t.calls) t (trie_with Full nodes' frames)) view
    (full (omega (arith, few, open_long nodes.paths frames))
    (subst (λ (p : List ℕ). IsNew nodes.paths (p ++ func ∷ [])) top gets.absent) gets.used
    (ap (λ (ns : Numbered). trie_with Full ns frames) gets.same))

pub entered : (old : Trie) (state : TrieState) (nodes nodes' : Numbered) (frames frames' : List Frame) (parent n func tsc : ℕ) → trie_with state nodes frames ≡ old
    → length frames < most_open → AreWithin nodes.paths frames → path_at nodes.paths parent ≡ innermost_path (open_in nodes.paths frames)
    → GetsNode (path_at nodes.paths parent ++ func ∷ []) nodes nodes' n → frames' ≡ frames ++ opening_frame n func tsc ∷ []
    → Enters (opening func tsc old.calls) old (trie_with state nodes' frames')
entered old state nodes nodes' frames frames' parent n func tsc view few within top gets more =
    subst (λ (t : Trie). Enters (opening func tsc t.calls) t (trie_with state nodes' frames')) view
    (by_node (subst (λ (p : List ℕ). GetsNode (p ++ func ∷ []) nodes nodes' n) top gets))
  where
    calls : List OpenPath
    calls = open_in nodes.paths frames

    path : List ℕ
    path = innermost_path calls ++ func ∷ []

    count : length calls < most_open
    count = omega (arith, few, open_long nodes.paths frames)

    on : List ℕ → OpenPath
    on p = record { func = func; path = p; tsc = tsc; spent = 0 }

    put : Numbered → List OpenPath → Trie
    put ns cs = record { room = ns.room; state = state; paths = ns.paths; tallies = ns.tallies; calls = cs }

    by_node : GetsNode path nodes nodes' n → Enters (opening func tsc calls) (trie_with state nodes frames) (trie_with state nodes' frames')
    by_node (had at same) =
        known count n at
        (ap (λ (ns : Numbered). trie_with state ns frames') same
        ∙ (ap (λ (fs : List Frame). trie_with state nodes fs) more
        ∙ ap (put nodes) (open_more nodes.paths frames (opening_frame n func tsc) ∙ ap (λ (p : List ℕ). on p ∷ calls) at.is)))
    by_node (got absent room number longer) =
        let nodes2 : Numbered = record nodes { paths = nodes.paths ++ path ∷ []; tallies = nodes.tallies ++ no_tally ∷ [] } in
        fresh count absent room
        (ap (λ (ns : Numbered). trie_with state ns frames') longer
        ∙ (ap (λ (fs : List Frame). trie_with state nodes2 fs) more
        ∙ ap (put nodes2)
        (open_more nodes2.paths frames (opening_frame n func tsc)
        ∙ (ap (λ (cs : List OpenPath). on (path_at nodes2.paths n) ∷ cs) (open_kept nodes.paths path frames within)
        ∙ ap (λ (p : List ℕ). on p ∷ calls) (path_last nodes.paths path n number)))))

-- ---- the nodes of frames

-- what a recorder's fields keep
pub record AreKept (paths : List (List ℕ)) (frames : List Frame) : Type 0 where
  pub frames_within : AreWithin paths frames
  pub root : path_at paths 0 ≡ []
  pub some : 0 < length paths

pub below : (paths : List (List ℕ)) (frames : List Frame) → AreWithin paths frames → All (λ node. node < length paths) (map node_in frames)
below paths frames within = All-weaker (λ node. (0 < node) × (node < length paths)) (λ node. node < length paths) (λ node both. both.1) (map node_in frames) within

kept_same : (old new : List (List ℕ)) (frames : List Frame) → new ≡ old → AreKept old frames → AreKept new frames
kept_same old new frames same own = subst (λ (paths : List (List ℕ)). AreKept paths frames) (sym same) own

kept_more : (paths : List (List ℕ)) (path : List ℕ) (frames : List Frame) → AreKept paths frames → AreKept (paths ++ path ∷ []) frames
kept_more paths path frames own = record {
  frames_within = All-weaker (λ node. (0 < node) × (node < length paths)) (λ node. (0 < node) × (node < length (paths ++ path ∷ [])))
      (λ node both. (both.0, let e : node < length paths = both.1 in omega (arith, e, length-append paths (path ∷ [])))) (map node_in frames) own.frames_within;
  root = path_kept paths path 0 own.some ∙ own.root;
  some = omega (arith, length-append paths (path ∷ []));
}

-- one more frame
kept_frame : (paths : List (List ℕ)) (frames frames' : List Frame) (frame : Frame) → AreKept paths frames → 0 < frame.node → frame.node < length paths
    → frames' ≡ frames ++ frame ∷ [] → AreKept paths frames'
kept_frame paths frames frames' frame own some within more =
    subst (AreKept paths) (sym more) (record {
      frames_within = subst (All (λ node. (0 < node) × (node < length paths))) (sym (map-append node_in frames (frame ∷ [])))
          (All-push (λ node. (0 < node) × (node < length paths)) (map node_in frames) frame.node own.frames_within (some, within));
      root = own.root;
      some = own.some;
    })

-- a path with a function isn't the empty one
not_root : (paths : List (List ℕ)) (front : List ℕ) (func n : ℕ) → path_at paths 0 ≡ [] → path_at paths n ≡ front ++ func ∷ [] → 0 < n
not_root paths front func zero root is =
    let long : length (front ++ func ∷ []) ≡ 0 = ap length (sym is ∙ root) in absurd (omega (arith, length-append front (func ∷ []), long))
not_root paths front func (suc n) root is = omega arith

pub kept_entered : (nodes nodes' : Numbered) (frames frames' : List Frame) (front : List ℕ) (n func tsc : ℕ) → AreKept nodes.paths frames
    → GetsNode (front ++ func ∷ []) nodes nodes' n → frames' ≡ frames ++ opening_frame n func tsc ∷ [] → AreKept nodes'.paths frames'
kept_entered nodes nodes' frames frames' front n func tsc own (had at same) more =
    kept_same nodes.paths nodes'.paths frames' (ap (λ (ns : Numbered). ns.paths) same)
    (kept_frame nodes.paths frames frames' (opening_frame n func tsc) own (not_root nodes.paths front func n own.root at.is) at.within more)
kept_entered nodes nodes' frames frames' front n func tsc own (got absent room number longer) more =
    kept_same (nodes.paths ++ (front ++ func ∷ []) ∷ []) nodes'.paths frames' (ap (λ (ns : Numbered). ns.paths) longer)
    (kept_frame (nodes.paths ++ (front ++ func ∷ []) ∷ []) frames frames' (opening_frame n func tsc) (kept_more nodes.paths (front ++ func ∷ []) frames own)
    (let some : 0 < length nodes.paths = own.some in omega (arith, number, some)) (omega (arith, number, length-append nodes.paths ((front ++ func ∷ []) ∷ []))) more)

pub kept_full : (path : List ℕ) (nodes nodes' : Numbered) (frames : List Frame) → AreKept nodes.paths frames → GetsNone path nodes nodes' → AreKept nodes'.paths frames
kept_full path nodes nodes' frames own gets = kept_same nodes.paths nodes'.paths frames (ap (λ (ns : Numbered). ns.paths) gets.same) own

-- frames with the nodes of the outermost ones
pub kept_left : (nodes nodes' : Numbered) (frames left spent : List Frame) (place : ℕ) → AreKept nodes.paths frames → left ≡ take place frames → map node_in spent ≡ map node_in left
    → nodes'.paths ≡ nodes.paths → AreKept nodes'.paths spent
kept_left nodes nodes' frames left spent place own are nodes_are same =
    kept_same nodes.paths nodes'.paths spent same (record {
      frames_within = subst (All (λ node. (0 < node) × (node < length nodes.paths)))
          (sym (nodes_are ∙ (ap (map node_in) are ∙ sym (take-map node_in place frames))))
          (All-take (λ node. (0 < node) × (node < length nodes.paths)) place (map node_in frames) own.frames_within);
      root = own.root;
      some = own.some;
    })

-- the node of a frame
pub node_within : (paths : List (List ℕ)) (frames : List Frame) (place : ℕ) (frame : Frame) → AreWithin paths frames → place < length frames → get_or frames place frame ≡ frame
    → (0 < frame.node) × (frame.node < length paths)
node_within paths [] place frame within low is = absurd (omega (arith, low))
node_within paths (f ∷ fs) zero frame within low is =
    subst (λ (g : Frame). (0 < g.node) × (g.node < length paths)) is (All-head (λ node. (0 < node) × (node < length paths)) f.node (map node_in fs) within)
node_within paths (f ∷ fs) (suc place) frame within low is =
    node_within paths fs place frame (All-tail (λ node. (0 < node) × (node < length paths)) f.node (map node_in fs) within) (omega (arith, low)) is

-- ---- numbers that are far from the ends of their types

spent_each : (paths : List (List ℕ)) (fs : List Frame) → All (λ (call : OpenPath). call.spent < 2 ^ 127) (map (open_path paths) fs) → All (λ (frame : Frame). frame.spent < 2 ^ 127) fs
spent_each paths [] all = All-nil (λ (frame : Frame). frame.spent < 2 ^ 127)
spent_each paths (f ∷ fs) all =
    All-cons (λ (frame : Frame). frame.spent < 2 ^ 127) f fs
    (All-head (λ (call : OpenPath). call.spent < 2 ^ 127) (open_path paths f) (map (open_path paths) fs) all)
    (spent_each paths fs (All-tail (λ (call : OpenPath). call.spent < 2 ^ 127) (open_path paths f) (map (open_path paths) fs) all))

pub frames_roomy : (old : Trie) (state : TrieState) (nodes : Numbered) (frames left : List Frame) (place : ℕ) → trie_with state nodes frames ≡ old → AreRoomy old
    → left ≡ take place frames → All (λ (frame : Frame). frame.spent < 2 ^ 127) left
frames_roomy old state nodes frames left place view roomy are =
    subst (All (λ (frame : Frame). frame.spent < 2 ^ 127)) (sym are)
    (All-take (λ (frame : Frame). frame.spent < 2 ^ 127) place frames
    (subst (All (λ (frame : Frame). frame.spent < 2 ^ 127)) (reverse-reverse frames)
    (All-permutation (λ (frame : Frame). frame.spent < 2 ^ 127) (reverse frames) (reverse (reverse frames)) (IsPermutation-reverse (reverse frames))
    (spent_each nodes.paths (reverse frames)
    (subst (λ (t : Trie). All (λ (call : OpenPath). call.spent < 2 ^ 127) t.calls) (sym view) roomy.calls)))))

tally_roomy : (tallies : List Tally) (k : ℕ) → All IsRoomy tallies → IsRoomy (get_or tallies k no_tally)
tally_roomy [] k all = record { count = omega arith; sum = omega arith; own = omega arith }
tally_roomy (t ∷ ts) zero all = All-head IsRoomy t ts all
tally_roomy (t ∷ ts) (suc k) all = tally_roomy ts k (All-tail IsRoomy t ts all)

pub node_roomy : (old : Trie) (state : TrieState) (nodes : Numbered) (frames : List Frame) (k : ℕ) → trie_with state nodes frames ≡ old → AreRoomy old
    → IsRoomy (get_or nodes.tallies k no_tally)
node_roomy old state nodes frames k view roomy = tally_roomy nodes.tallies k (subst (λ (t : Trie). All IsRoomy t.tallies) (sym view) roomy.tallies)

-- ---- an exit

pub left_none : (old : Trie) (state : TrieState) (nodes : Numbered) (frames frames' : List Frame) (func tsc : ℕ) → trie_with state nodes frames ≡ old
    → open_from func (open_in nodes.paths frames) ≡ [] → frames' ≡ frames → Leaves func tsc old (trie_with state nodes frames')
left_none old state nodes frames frames' func tsc view found same =
    subst (λ (t : Trie). Leaves func tsc t (trie_with state nodes frames')) view (none found (ap (λ (fs : List Frame). trie_with state nodes fs) same))

pub left_ended : (old : Trie) (state : TrieState) (nodes nodes' : Numbered) (frames left spent : List Frame) (frame : Frame) (func tsc duration own : ℕ) → trie_with state nodes frames ≡ old
    → (0 < frame.node) × (frame.node < length nodes.paths) → open_from func (open_in nodes.paths frames) ≡ open_path nodes.paths frame ∷ open_in nodes.paths left
    → duration ≡ cycles_between frame.tsc tsc → own ≡ duration - frame.spent → open_in nodes.paths spent ≡ with_spent duration (open_in nodes.paths left)
    → nodes' ≡ record nodes { tallies = set nodes.tallies (frame.node - 1) (with_pair duration own (get_or nodes.tallies (frame.node - 1) no_tally)) }
    → Leaves func tsc old (trie_with state nodes' spent)
left_ended old state nodes nodes' frames left spent frame func tsc duration own view node found lasted rest times pair =
    subst (λ (t : Trie). Leaves func tsc t (trie_with state nodes' spent)) view
    (ended (open_path nodes.paths frame) (open_in nodes.paths left) frame.node found node.0 (record { within = node.1; is = refl }) changed)
  where
    put : ℕ → ℕ → List OpenPath → Trie
    put d o cs = record {
      room = nodes.room;
      state = state;
      paths = nodes.paths;
      tallies = set nodes.tallies (frame.node - 1) (with_pair d o (get_or nodes.tallies (frame.node - 1) no_tally));
      calls = cs;
    }

    cycles : ℕ
    cycles = cycles_between frame.tsc tsc

    changed : trie_with state nodes' spent ≡ put cycles (cycles - frame.spent) (with_spent cycles (open_in nodes.paths left))
    changed =
        ap (λ (ns : Numbered). trie_with state ns spent) pair
        ∙ (ap (put duration own) times
        ∙ (ap (λ (o : ℕ). put duration o (with_spent duration (open_in nodes.paths left))) rest
        ∙ ap (λ (d : ℕ). put d (d - frame.spent) (with_spent d (open_in nodes.paths left))) lasted))

-- ---- the room

pub entered_room : (call : OpenPath) (old new : Trie) → Enters call old new → HasSameRoom old new
entered_room call old new (deep many is) = record { room = ap (λ (t : Trie). t.room) is }
entered_room call old new (full few absent used is) = record { room = ap (λ (t : Trie). t.room) is }
entered_room call old new (known few n at is) = record { room = ap (λ (t : Trie). t.room) is }
entered_room call old new (fresh few absent room is) = record { room = ap (λ (t : Trie). t.room) is }

pub left_room : (func tsc : ℕ) (old new : Trie) → Leaves func tsc old new → HasSameRoom old new
left_room func tsc old new (none found is) = record { room = ap (λ (t : Trie). t.room) is }
left_room func tsc old new (ended call outer n found some at is) = record { room = ap (λ (t : Trie). t.room) is }
