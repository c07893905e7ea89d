-- What a line makes of what is network.
use Rattle.std.specs.Prelude.{◌≡◌, ℕ, ◌+◌, ◌*◌, ◌==◌, List, [], ◌∷◌, ◌++◌, length, map, filter, slice_get, option_map}
use Rattle.lapi_base.specs.declared.script.Script.{Script}
use Rattle.lapi_base.specs.declared.rule.Rules.{Rules}
use Rattle.lapi_base.specs.declared.schedule.Act.{Act}
use Rattle.lapi_base.specs.declared.reply.Reply.{Reply}
use Rattle.lapi_base.specs.declared.wire.WireEntry.{WireEntry}
use Rattle.lapi_base.specs.Record.Wires.{Run}
use Rattle.lapi_base.specs.Record.WorldView.{IsRecord, performed}
use Rattle.lapi_task.specs.declared.outcome.Outcome.{Outcome}
use Rattle.lapi_world.specs.declared.network.Network.{Network}
use Rattle.lapi_world.specs.Stands.{Stands}

-- what stood for a record stands for it with this act
abbrev pub KeepsRecord : Script → Rules → Act → (old new : Network) → Type 0
KeepsRecord script rules act old new = (r : Run) → IsRecord script rules r → Stands script rules old r → Stands script rules new (performed script rules r act)

-- and this is the reply to the act
abbrev pub Answers : Script → Rules → Act → Network → Reply → Type 0
Answers script rules act old reply = (r : Run) → IsRecord script rules r → Stands script rules old r → (performed script rules r act).replies ≡ r.replies ++ reply ∷ []

-- the bytes of the entries that go from task t onto the wire at this place
abbrev pub bytes_at : (tasks t place : ℕ) → List WireEntry → List (List ℕ)
bytes_at tasks t place entries = map (λ (e : WireEntry). e.bytes) (filter (λ (e : WireEntry). t * tasks + e.to == place) entries)

-- the entries were put on their wires
abbrev pub ArePut : (tasks t : ℕ) → List WireEntry → (old new : List (List (List ℕ))) → Type 0
ArePut tasks t entries old new = (place : ℕ) → slice_get new place ≡ option_map (λ wire. wire ++ bytes_at tasks t place entries) (slice_get old place)

-- what a task did was added
pub record IsAdded (tasks t : ℕ) (out : Outcome) (old new : Network) : Type 0 where
  pub journal : new.journal ≡ old.journal ++ out.events
  pub wire_count : length new.wires.items ≡ length old.wires.items
  pub wires : ArePut tasks t out.entries old.wires.items new.wires.items
