-- Under the first layout acknowledgements go out at once.
use Rattle.std.proofs.Common.{◌≡◌, false, [], ◌∷◌, ap}
use Rattle.std.proofs.lemmas.Bool.{cond-false}
use Rattle.lapi_base.specs.declared.script.Script.{Script}
use Rattle.lapi_base.specs.declared.rule.Rules.{Rules}
use Rattle.lapi_base.specs.declared.packet.Packet.{Packet}
use Rattle.lapi_base.specs.Packet.Layout.{layout_of, waits_for_poll, holds_back}
use Rattle.lapi_base.specs.Record.Acts.{at_once}

pub holds-nothing : (script : Script) → script.layout ≡ 1 → holds_back script ≡ false
unfolding holds_back
holds-nothing script first = ap (λ n. waits_for_poll (layout_of n)) first

-- where acknowledgements go out at once, one that is told goes out
pub told-now : (script : Script) (rules : Rules) (p : Packet) → holds_back script ≡ false → at_once script rules p ≡ p ∷ []
unfolding at_once
told-now script rules p now = cond-false (holds_back script) [] (p ∷ []) now
