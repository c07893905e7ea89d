-- What each act keeps holds after any acts.
use Rattle.std.proofs.Common.{ℕ, List, [], ◌∷◌}
use Rattle.std.specs.List.{AllByRecursion}
use Rattle.lapi_base.specs.declared.script.Script.{Script}
use Rattle.lapi_base.specs.declared.rule.Rules.{Rules}
use Rattle.lapi_base.specs.declared.schedule.Act.{Act}
use Rattle.lapi_base.specs.declared.reply.Bad.{Bad}
use Rattle.lapi_base.specs.declared.packet.Packet.{Packet}
use Rattle.lapi_base.specs.Record.Wires.{Run}
use Rattle.lapi_base.specs.Record.Acts.{perform, after}
use Rattle.lapi_base.proofs.ListLaws.{all-any}

module _ (script : Script) (rules : Rules) (size : Packet → ℕ) (refusal : List ℕ → Bad) where
  -- acts of some kind, as those of a valid schedule
  pub after-keeps : (Good : Act → Type 0) (P : Run → Type 0) → ((r : Run) (act : Act) → Good act → P r → P (perform script rules size refusal r act)) → (acts : List Act) (r : Run) → AllByRecursion Good acts → P r → P (after script rules size refusal r acts)
  unfolding after
  after-keeps Good P keeps [] r good h = h
  after-keeps Good P keeps (act ∷ acts) r good h = after-keeps Good P keeps acts (perform script rules size refusal r act) good.1 (keeps r act good.0 h)

  -- and all acts
  pub after-any : (P : Run → Type 0) → ((r : Run) (act : Act) → P r → P (perform script rules size refusal r act)) → (acts : List Act) (r : Run) → P r → P (after script rules size refusal r acts)
  after-any P keeps acts r h = after-keeps (λ _. Unit {0}) P (λ q act _ k. keeps q act k) acts r (all-any acts) h
