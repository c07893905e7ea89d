-- The packets that come to a task: what their heads may be, and that their places are there.
use Rattle.std.proofs.Common.{◌≡◌, ℕ, Bool, true, false, refl, sym, subst, arith}
use Rattle.std.specs.Prelude.{slice_get, Some}
use Rattle.std.proofs.lemmas.Bool.{false≢true}
use Rattle.lapi_base.specs.declared.script.Script.{Script}
use Rattle.lapi_base.specs.declared.rule.Rules.{Rules}
use Rattle.lapi_base.specs.declared.statement.Statement.{Statement}
use Rattle.lapi_base.specs.declared.statement.Statement.TheVariants as statements
use Rattle.lapi_base.specs.declared.head.Head.{Head}
use Rattle.lapi_base.specs.declared.head.Head.TheVariants as heads
use Rattle.lapi_base.specs.declared.message.Leg.{Leg}
use Rattle.lapi_base.specs.declared.message.Leg.TheVariants.{Go, Back, Note, Echo, Join}
use Rattle.lapi_base.specs.declared.message.MsgName.{MsgName}
use Rattle.lapi_base.specs.declared.packet.Packet.TheVariants.{Data}
use Rattle.lapi_base.specs.declared.packet.DataPacket.{DataPacket}
use Rattle.lapi_base.specs.Record.Handlers.{answers}
use Rattle.lapi_base.specs.Record.HeadSays.{is_active, announces, head_pieces, asked_pieces}
use Rattle.lapi_base.specs.Record.Operations.{statement, has_leg, length_by, message_length}
use Rattle.lapi_base.specs.Record.Packets.{head_by}
use Rattle.lapi_base.specs.Record.Valid.{ValidRules, ValidScript}
use Rattle.lapi_base.specs.Record.Wires.{Run}
use Rattle.lapi_base.specs.Record.WorldView.{IsRecord}
use Rattle.lapi_base.specs.Laws.Receiving.{FitsScript, HeadFits, NamesCounter, SpansAreInMemory, bytes_in}
use Rattle.lapi_parts.proofs.Deliveries.{Facts, facts}
use Rattle.lapi_parts.proofs.Receivable.{packets-fit}
use Rattle.lapi_task.proofs.Following.FollowerParts.{one-total}

-- The length of a message, where its head says it.
abbrev pub IsKind : Head → (len : ℕ) → Type 0
IsKind (heads.Put at tgt cmpl) len = Unit {0}
IsKind (heads.Putv tgt cmpl pieces) len = Unit {0}
IsKind (heads.Am handler tgt cmpl header) len = Unit {0}
IsKind (heads.GetBack dest org) len = Unit {0}
IsKind (heads.GetvBack org dest) len = Unit {0}
IsKind (heads.RmwBack dest org) len = len ≡ 4
IsKind (heads.GetGo asked source dest tgt org) len = len ≡ 0
IsKind (heads.GetvGo tgt org source dest) len = len ≡ 0
IsKind (heads.RmwGo op at in1 in2 prev org) len = len ≡ 0
IsKind (heads.Note op cmpl) len = len ≡ 0
IsKind (heads.Gfence round) len = len ≡ 0
IsKind (heads.Addr round address) len = len ≡ 0
IsKind (heads.Echo dest cmpl) len = len ≡ 4

module _ (script : Script) (rules : Rules) where
  -- Its places, the places that it asks for and its counter are there.
  pub record IsThere (h : Head) (len : ℕ) : Type 0 where
    pub pieces : SpansAreInMemory script (head_pieces h len)
    pub total : is_active h ≡ false → bytes_in (head_pieces h len) ≡ len
    pub asked : SpansAreInMemory script (asked_pieces h)
    pub counter : NamesCounter script (announces h false)

  pub there-is : (h : Head) (len : ℕ) → IsKind h len → HeadFits script rules len h → IsThere h len
  there-is (heads.Put at tgt cmpl) len k f = record { pieces = (f.0, tt); total = λ _. sym (one-total (record { at = at; len = len })); asked = tt; counter = f.1 }
  there-is (heads.Putv tgt cmpl pieces) len k f = record { pieces = f.0; total = λ _. f.1; asked = tt; counter = f.2 }
  there-is (heads.GetBack dest org) len k f = record { pieces = (f.0, tt); total = λ _. sym (one-total (record { at = dest; len = len })); asked = tt; counter = f.1 }
  there-is (heads.GetvBack org dest) len k f = record { pieces = f.0; total = λ _. f.1; asked = tt; counter = f.2 }
  there-is (heads.RmwBack dest org) len k f = record { pieces = ((let l = f.0.0 in omega (arith, l, k)), tt); total = λ _. sym (one-total (record { at = dest; len = len })); asked = tt; counter = f.1 }
  there-is (heads.GetGo asked source dest tgt org) len k f = record { pieces = tt; total = λ _. sym k; asked = (f.0, tt); counter = f.2 }
  there-is (heads.GetvGo tgt org source dest) len k f = record { pieces = tt; total = λ _. sym k; asked = f.0; counter = f.3 }
  there-is (heads.RmwGo op at in1 in2 prev org) len k f = record { pieces = tt; total = λ _. sym k; asked = (f.0.0, tt); counter = tt }
  there-is (heads.Note op cmpl) len k f = record { pieces = tt; total = λ _. sym k; asked = tt; counter = f }
  there-is (heads.Am handler tgt cmpl header) len k f = record { pieces = tt; total = λ e. absurd (false≢true (sym e)); asked = tt; counter = f.1 }
  there-is (heads.Gfence round) len k f = record { pieces = tt; total = λ _. sym k; asked = tt; counter = tt }
  there-is (heads.Addr round address) len k f = record { pieces = tt; total = λ _. sym k; asked = tt; counter = tt }
  there-is (heads.Echo dest cmpl) len k f = record { pieces = ((let l = f.0.0 in omega (arith, l, k)), tt); total = λ _. sym (one-total (record { at = dest; len = len })); asked = tt; counter = f.1 }

  -- a counter that its landing announces is there, with a completion or without
  pub counter-later : (h : Head) (completion : Bool) → NamesCounter script (announces h false) → NamesCounter script (announces h completion)
  counter-later (heads.Am handler tgt cmpl header) true f = tt
  counter-later (heads.Am handler tgt cmpl header) false f = f
  counter-later _ completion f = f

  kind-by : (answers : Bool) (m : MsgName) (leg : Leg) (s : Statement) → has_leg script answers m.origin leg s ≡ true → IsKind (head_by script m leg s) (length_by leg s)
  kind-by ans m Go (statements.Put task to from len tgt org cmpl) g = tt
  kind-by ans m Go (statements.Get task from to len tgt org) g = refl
  kind-by ans m Go (statements.Putv task to from tgt org cmpl) g = tt
  kind-by ans m Go (statements.Getv task from to tgt org) g = refl
  kind-by ans m Go (statements.Rmw task op at in1 in2 prev org) g = refl
  kind-by ans m Go (statements.Am task handler header from len tgt org cmpl) g = tt
  kind-by ans m Back (statements.Get task from to len tgt org) g = tt
  kind-by ans m Back (statements.Getv task from to tgt org) g = tt
  kind-by ans m Back (statements.Rmw task op at in1 in2 prev org) g = refl
  kind-by ans m Note s g = refl
  kind-by ans m Echo s g = refl
  kind-by ans m (Join d) statements.Gfence g = refl
  kind-by ans m (Join d) (statements.Addr at) g = refl
  kind-by ans m _ s g = absurd (false≢true g)

  -- A packet that comes: what the record says of it, and its head.
  pub record Comes (r : Run) (a t : ℕ) (p : DataPacket) : Type 0 where
    pub facts : Facts script rules r a t p
    pub kind : IsKind p.head p.length
    pub fits : FitsScript script rules p

  pub comes : ValidScript script → ValidRules rules → (r : Run) (a t k : ℕ) (p : DataPacket) → IsRecord script rules r → slice_get (r.wire a t) k ≡ Some (Data p) → Comes r a t p
  unfolding message_length
  comes valid ok r a t k p is at =
      let f = facts script rules r is a t k p at in
      let m = p.name in
      let s = statement script m.origin m.statement in
      let kind = kind-by (answers script rules m.origin m.statement) m m.leg s f.leg in
      record {
        facts = f;
        kind = subst (λ (h : Head). IsKind h p.length) (sym f.head) (subst (IsKind (head_by script m m.leg s)) (sym f.size) kind);
        fits = packets-fit script rules r is valid ok a t k p at;
      }
