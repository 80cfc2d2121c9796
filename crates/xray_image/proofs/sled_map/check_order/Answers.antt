use Rattle.std.proofs.Common.{◌<◌, length, get_or, map, arith, refl, below_more}
use Rattle.xray_image.specs.Table.{HasOneAddress}
use Rattle.xray_image.specs.private.Views.{place_of, entry_of}
use Rattle.xray_image.proofs.Scans.{from_below, one_past, no_line, no_spot, one_address, other_address, zero_spot, zero_line, spot_is, line_is}
use Rattle.xray_image.proofs.sled_map.check_order.Goals as goal

pub returns-then-number-spots-clause-refused : goal.returns-then-number-spots-clause-refused
returns-then-number-spots-clause-refused c = record {
  number = c.loop-number.number;
  fails = no_spot c.args.spots.now c.args.entries.now c.loop-number.number c.if-number-spots.true c.loop-number-test.true;
  holds_below = c.loop-number.invariant.0;
  is = refl;
}

pub returns-then-spots-number-clause-refused : goal.returns-then-spots-number-clause-refused
returns-then-spots-number-clause-refused c =
    let i = c.loop-number.number in
    let spots = c.args.spots.now in
    let entries = c.args.entries.now in
    let in_spots : i < length spots = omega arith in
    let in_entries : i < length entries = omega arith in
    record {
      number = i;
      fails = other_address spots entries i (get_or spots i zero_spot) (get_or entries i zero_line) in_spots in_entries (spot_is spots i in_spots) (line_is entries i in_entries) c.if-spots-number.true;
      holds_below = c.loop-number.invariant.0;
      is = refl;
    }

pub loop-number-preserved : goal.loop-number-preserved
loop-number-preserved c =
    let i = c.loop-number.number in
    let spots = c.args.spots.now in
    let entries = c.args.entries.now in
    let in_spots : i < length spots = omega arith in
    let in_entries : i < length entries = omega arith in (
      below_more (HasOneAddress (map place_of spots) (map entry_of entries)) i c.loop-number.invariant.0
          (one_address spots entries i (get_or spots i zero_spot) (get_or entries i zero_line) in_spots in_entries (spot_is spots i in_spots) (line_is entries i in_entries) c.if-spots-number.false),
      omega arith,
    )

pub returns-then-entries-spots-clause-refused : goal.returns-then-entries-spots-clause-refused
returns-then-entries-spots-clause-refused c = record {
  number = length c.args.entries.now;
  fails = no_line c.args.spots.now c.args.entries.now (length c.args.entries.now) (omega arith) c.if-entries-spots.true;
  holds_below = λ j lt. c.loop-number.invariant.0 j (omega (arith, c.loop-number-test.false));
  is = refl;
}

pub returns-clause-ordered : goal.returns-clause-ordered
returns-clause-ordered c =
    from_below _ (length c.args.entries.now) (λ j lt. c.loop-number.invariant.0 j (omega (arith, c.loop-number-test.false)))
    (λ j le. one_past c.args.spots.now c.args.entries.now j le (omega (arith, c.if-entries-spots.false)))
