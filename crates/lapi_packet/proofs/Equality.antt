-- What the derived `==` of packets and of their parts says: that they are equal.
use Rattle.std.proofs.Common.{◌≡◌, ◌==◌, ◌&&◌, ℕ, Bool, true, List, Option, Some, None, refl, sym, ap, ◌∙◌, subst}
use Rattle.std.specs.Bool.{Decides}
use Rattle.std.specs.Cmp.Lexicographic.{pointwise, pointwise_decides}
use Rattle.std.specs.Option.{option_eq}
use Rattle.std.proofs.lemmas.Bool.{and_parts, and_from, eqb-true, eq-eqb, false≢true}
use Rattle.std.proofs.lemmas.Bool.Decides.{Decides-eqb}
use Rattle.lapi_base.specs.declared.span.Span.{Span}
use Rattle.lapi_base.specs.declared.head.Head.{Head}
use Rattle.lapi_base.specs.declared.head.Head.TheVariants.{Put, GetGo, GetBack, Putv, GetvGo, GetvBack, RmwGo, RmwBack, Am, Echo, Note, Gfence, Addr}
use Rattle.lapi_base.specs.declared.head.NoteOp.{NoteOp}
use Rattle.lapi_base.specs.declared.head.NoteOp.TheVariants as notes
use Rattle.lapi_base.specs.declared.statement.RmwOp.{RmwOp}
use Rattle.lapi_base.specs.declared.statement.RmwOp.TheVariants as words
use Rattle.lapi_base.specs.declared.message.Leg.{Leg}
use Rattle.lapi_base.specs.declared.message.Leg.TheVariants as legs
use Rattle.lapi_base.specs.declared.message.MsgName.{MsgName}
use Rattle.lapi_base.specs.declared.packet.DataPacket.{DataPacket}
use Rattle.lapi_base.specs.declared.packet.Packet.{Packet}
use Rattle.lapi_base.specs.declared.packet.Packet.TheVariants.{Data, Ack}
use Rattle.lapi_base.specs.contracts.statement.RmwOpPartialEq.TheImpl as word_eq
use Rattle.lapi_base.specs.contracts.head.NoteOpPartialEq.TheImpl as note_eq
use Rattle.lapi_base.specs.contracts.head.HeadPartialEq.TheImpl as head_eq
use Rattle.lapi_base.specs.contracts.message.LegPartialEq.TheImpl as leg_eq
use Rattle.lapi_base.specs.contracts.message.MsgNamePartialEq.TheImpl as name_eq
use Rattle.lapi_base.specs.contracts.packet.DataPacketPartialEq.TheImpl as data_eq
use Rattle.lapi_base.specs.contracts.packet.PacketPartialEq.TheImpl as packet_eq
use Rattle.lapi_base.specs.contracts.packet.PacketEq.TheImpl.Laws.{laws-law}

number : (a b : ℕ) → (a == b) ≡ true → a ≡ b
number = eqb-true

abbrev same_counter : Option ℕ → Option ℕ → Bool
same_counter a b = option_eq (λ x y. x == y) a b

counter : (a b : Option ℕ) → same_counter a b ≡ true → a ≡ b
counter None None e = refl
counter (Some a) (Some b) e = ap (λ (n : ℕ). Some n) (number a b e)
counter _ _ e = absurd (false≢true e)

abbrev same_span : Span → Span → Bool
same_span a b = a.at == b.at && a.len == b.len

span : (a b : Span) → same_span a b ≡ true → a ≡ b
span a b e =
    let p = and_parts _ _ e in
    λ i. record { at = number a.at b.at p.0 i; len = number a.len b.len p.1 i }

span_decided : (a b : Span) → Decides (same_span a b) (a ≡ b)
span_decided a b = (span a b, λ e. and_from _ _ (eq-eqb _ _ (ap (λ (s : Span). s.at) e)) (eq-eqb _ _ (ap (λ (s : Span). s.len) e)))

spans : (xs ys : List Span) → pointwise same_span xs ys ≡ true → xs ≡ ys
spans xs ys e = (pointwise_decides span_decided xs ys).0 e

word : (a b : RmwOp) → (word_eq.ghosts).eq a b ≡ true → a ≡ b
word words.Swap words.Swap e = refl
word words.Cas words.Cas e = refl
word words.Add words.Add e = refl
word words.Or words.Or e = refl
word _ _ e = absurd (false≢true e)

note : (a b : NoteOp) → (note_eq.ghosts).eq a b ≡ true → a ≡ b
note notes.Put notes.Put e = refl
note notes.Putv notes.Putv e = refl
note notes.Am notes.Am e = refl
note _ _ e = absurd (false≢true e)

bytes : (xs ys : List ℕ) → pointwise (λ x y. x == y) xs ys ≡ true → xs ≡ ys
bytes xs ys e = (pointwise_decides Decides-eqb xs ys).0 e

head : (a b : Head) → (head_eq.ghosts).eq a b ≡ true → a ≡ b
head (Put at tgt cmpl) (Put at' tgt' cmpl') e =
    let fields : (at == at' && (same_counter tgt tgt' && same_counter cmpl cmpl')) ≡ true = e in
    let p = and_parts _ _ fields in
    let q = and_parts _ _ p.1 in
    λ i. Put (number at at' p.0 i) (counter tgt tgt' q.0 i) (counter cmpl cmpl' q.1 i)
head (GetGo asked source dest tgt org) (GetGo asked' source' dest' tgt' org') e =
    let fields : (asked == asked' && (source == source' && (dest == dest' && (same_counter tgt tgt' && same_counter org org')))) ≡ true = e in
    let p = and_parts _ _ fields in
    let q = and_parts _ _ p.1 in
    let r = and_parts _ _ q.1 in
    let s = and_parts _ _ r.1 in
    λ i. GetGo (number asked asked' p.0 i) (number source source' q.0 i) (number dest dest' r.0 i) (counter tgt tgt' s.0 i) (counter org org' s.1 i)
head (GetBack dest org) (GetBack dest' org') e =
    let fields : (dest == dest' && same_counter org org') ≡ true = e in
    let p = and_parts _ _ fields in
    λ i. GetBack (number dest dest' p.0 i) (counter org org' p.1 i)
head (Putv tgt cmpl pieces) (Putv tgt' cmpl' pieces') e =
    let fields : (same_counter tgt tgt' && (same_counter cmpl cmpl' && pointwise same_span pieces pieces')) ≡ true = e in
    let p = and_parts _ _ fields in
    let q = and_parts _ _ p.1 in
    λ i. Putv (counter tgt tgt' p.0 i) (counter cmpl cmpl' q.0 i) (spans pieces pieces' q.1 i)
head (GetvGo tgt org source dest) (GetvGo tgt' org' source' dest') e =
    let fields : (same_counter tgt tgt' && (same_counter org org' && (pointwise same_span source source' && pointwise same_span dest dest'))) ≡ true = e in
    let p = and_parts _ _ fields in
    let q = and_parts _ _ p.1 in
    let r = and_parts _ _ q.1 in
    λ i. GetvGo (counter tgt tgt' p.0 i) (counter org org' q.0 i) (spans source source' r.0 i) (spans dest dest' r.1 i)
head (GetvBack org dest) (GetvBack org' dest') e =
    let fields : (same_counter org org' && pointwise same_span dest dest') ≡ true = e in
    let p = and_parts _ _ fields in
    λ i. GetvBack (counter org org' p.0 i) (spans dest dest' p.1 i)
head (RmwGo op at in1 in2 prev org) (RmwGo op' at' in1' in2' prev' org') e =
    let fields : ((word_eq.ghosts).eq op op' && (at == at' && (in1 == in1' && (in2 == in2' && (prev == prev' && same_counter org org'))))) ≡ true = e in
    let p = and_parts _ _ fields in
    let q = and_parts _ _ p.1 in
    let r = and_parts _ _ q.1 in
    let s = and_parts _ _ r.1 in
    let t = and_parts _ _ s.1 in
    λ i. RmwGo (word op op' p.0 i) (number at at' q.0 i) (number in1 in1' r.0 i) (number in2 in2' s.0 i) (number prev prev' t.0 i) (counter org org' t.1 i)
head (RmwBack dest org) (RmwBack dest' org') e =
    let fields : (dest == dest' && same_counter org org') ≡ true = e in
    let p = and_parts _ _ fields in
    λ i. RmwBack (number dest dest' p.0 i) (counter org org' p.1 i)
head (Am handler tgt cmpl header) (Am handler' tgt' cmpl' header') e =
    let fields : (handler == handler' && (same_counter tgt tgt' && (same_counter cmpl cmpl' && pointwise (λ x y. x == y) header header'))) ≡ true = e in
    let p = and_parts _ _ fields in
    let q = and_parts _ _ p.1 in
    let r = and_parts _ _ q.1 in
    λ i. Am (number handler handler' p.0 i) (counter tgt tgt' q.0 i) (counter cmpl cmpl' r.0 i) (bytes header header' r.1 i)
head (Echo dest cmpl) (Echo dest' cmpl') e =
    let fields : (dest == dest' && same_counter cmpl cmpl') ≡ true = e in
    let p = and_parts _ _ fields in
    λ i. Echo (number dest dest' p.0 i) (counter cmpl cmpl' p.1 i)
head (Note op cmpl) (Note op' cmpl') e =
    let fields : ((note_eq.ghosts).eq op op' && cmpl == cmpl') ≡ true = e in
    let p = and_parts _ _ fields in
    λ i. Note (note op op' p.0 i) (number cmpl cmpl' p.1 i)
head (Gfence round) (Gfence round') e = ap Gfence (number round round' e)
head (Addr round address) (Addr round' address') e =
    let fields : (round == round' && address == address') ≡ true = e in
    let p = and_parts _ _ fields in
    λ i. Addr (number round round' p.0 i) (number address address' p.1 i)
head _ _ e = absurd (false≢true e)

leg : (a b : Leg) → (leg_eq.ghosts).eq a b ≡ true → a ≡ b
leg legs.Go legs.Go e = refl
leg legs.Back legs.Back e = refl
leg legs.Note legs.Note e = refl
leg legs.Echo legs.Echo e = refl
leg (legs.Join a) (legs.Join b) e = ap (λ (n : ℕ). legs.Join n) (number a b e)
leg _ _ e = absurd (false≢true e)

name : (a b : MsgName) → (name_eq.ghosts).eq a b ≡ true → a ≡ b
name a b e =
    let fields : (a.origin == b.origin && (a.statement == b.statement && (leg_eq.ghosts).eq a.leg b.leg)) ≡ true = e in
    let p = and_parts _ _ fields in
    let q = and_parts _ _ p.1 in
    λ i. record { origin = number a.origin b.origin p.0 i; statement = number a.statement b.statement q.0 i; leg = leg a.leg b.leg q.1 i }

data_packet : (a b : DataPacket) → (data_eq.ghosts).eq a b ≡ true → a ≡ b
data_packet a b e =
    let last : Bool = a.length == b.length && (a.fragment == b.fragment && pointwise (λ x y. x == y) a.payload b.payload) in
    let middle : Bool = a.seq == b.seq && ((name_eq.ghosts).eq a.name b.name && ((head_eq.ghosts).eq a.head b.head && last)) in
    let fields : (a.layout == b.layout && (a.from == b.from && (a.to == b.to && middle))) ≡ true = e in
    let o = and_parts _ _ fields in
    let p = and_parts _ _ o.1 in
    let q = and_parts _ _ p.1 in
    let r = and_parts _ _ q.1 in
    let s = and_parts _ _ r.1 in
    let t = and_parts _ _ s.1 in
    let u = and_parts _ _ t.1 in
    let v = and_parts _ _ u.1 in
    λ i. record {
      layout = number a.layout b.layout o.0 i;
      from = number a.from b.from p.0 i;
      to = number a.to b.to q.0 i;
      seq = number a.seq b.seq r.0 i;
      name = name a.name b.name s.0 i;
      head = head a.head b.head t.0 i;
      length = number a.length b.length u.0 i;
      fragment = number a.fragment b.fragment v.0 i;
      payload = bytes a.payload b.payload v.1 i;
    }

packet : (a b : Packet) → (packet_eq.ghosts).eq a b ≡ true → a ≡ b
packet (Data a) (Data b) e = ap (λ (p : DataPacket). Data p) (data_packet a b e)
packet (Ack layout from to base bits) (Ack layout' from' to' base' bits') e =
    let fields : (layout == layout' && (from == from' && (to == to' && (base == base' && bits == bits')))) ≡ true = e in
    let o = and_parts _ _ fields in
    let p = and_parts _ _ o.1 in
    let q = and_parts _ _ p.1 in
    let r = and_parts _ _ q.1 in
    λ i. Ack (number layout layout' o.0 i) (number from from' p.0 i) (number to to' q.0 i) (number base base' r.0 i) (number bits bits' r.1 i)
packet _ _ e = absurd (false≢true e)

pub same_packet : (a b : Packet) (answer : Bool) → answer ≡ (packet_eq.ghosts).eq a b → Decides answer (a ≡ b)
same_packet a b answer is = (
  λ e. packet a b (sym is ∙ e),
  λ e. is ∙ subst (λ (c : Packet). (packet_eq.ghosts).eq a c ≡ true) e (laws-law.refl a),
)
