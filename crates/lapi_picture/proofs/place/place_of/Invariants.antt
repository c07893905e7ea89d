use Rattle.std.proofs.Common.{◌≡◌, drop}
use Rattle.lapi_picture.specs.Rows.{place_from}
use Rattle.lapi_picture.proofs.place.place_of.Given as goal

abbrev pub invariant-loop-j : goal.invariant-loop-j
invariant-loop-j l = place_from l.wanted 0 l.rows ≡ place_from l.wanted l.j (drop l.j l.rows)
