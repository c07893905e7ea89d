-- What the packets that were handed over tell of a message, before and after one more.
use Rattle.std.proofs.Common.{◌≡◌, ℕ, suc, ◌==◌, true, false, cond, ◌&&◌, ◌||◌, List, [], ◌∷◌, Some, None, refl, sym, ap, ◌∙◌, subst, ⊎_elim}
use Rattle.std.specs.Prelude.{slice_get}
use Rattle.std.proofs.lemmas.Bool.{false≢true, and_parts, and_from, eqb-true, eq-eqb, ne_eqb, cases_eq}
use Rattle.lapi_base.specs.declared.message.MsgName.{MsgName}
use Rattle.lapi_base.specs.declared.packet.Packet.{Packet}
use Rattle.lapi_base.specs.declared.packet.Packet.TheVariants.{Data, Ack}
use Rattle.lapi_base.specs.declared.packet.DataPacket.{DataPacket}
use Rattle.lapi_base.specs.Record.Names.{name_eq}
use Rattle.lapi_base.specs.Record.Wires.{has_number}
use Rattle.lapi_base.specs.Record.Arrived.{is_fragment, has_fragment, has_some, some_packet, payload_of}
use Rattle.lapi_base.proofs.ListLaws.{any-get}
use Rattle.lapi_base.proofs.NameLaws.{name_eq-refl, name_eq-true}

-- Numbers.
turned : (m n : ℕ) → (m == n) ≡ (n == m)
turned m n =
    ⊎_elim
    (λ (e : m ≡ n). eq-eqb m n e ∙ sym (eq-eqb n m (sym e)))
    (λ (ne : m ≡ n → ⊥). ne_eqb m n ne ∙ sym (ne_eqb n m (λ e. ne (sym e))))
    (cases_eq m n)

pub number-more : (p : DataPacket) (ps : List Packet) (n : ℕ) → (n == p.seq || has_number ps n) ≡ has_number (Data p ∷ ps) n
unfolding has_number
number-more p ps n = ap (λ b. b || has_number ps n) (turned n p.seq)

pub number-known : (p : DataPacket) (ps : List Packet) (n : ℕ) → has_number ps p.seq ≡ true → has_number ps n ≡ has_number (Data p ∷ ps) n
unfolding has_number
number-known p ps n known =
    elim (p.seq == n) as (λ b. (p.seq == n) ≡ b → has_number ps n ≡ (b || has_number ps n)) [
      | true ↦ λ e. subst (λ k. has_number ps k ≡ true) (eqb-true p.seq n e) known
      | false ↦ λ e. refl
    ] refl

-- A packet of a message.
pub packet-found : (ps : List Packet) (m : MsgName) (q : DataPacket) → some_packet ps m ≡ Some q → (k : ℕ) × (slice_get ps k ≡ Some (Data q)) × (q.name ≡ m)
unfolding some_packet
packet-found [] m q h = absurd (cc)
packet-found (Data p ∷ ps) m q h =
    elim (name_eq m p.name) as (λ b. name_eq m p.name ≡ b → cond b (Some p) (some_packet ps m) ≡ Some q → (k : ℕ) × (slice_get (Data p ∷ ps) k ≡ Some (Data q)) × (q.name ≡ m)) [
      | true ↦ λ e g. let same : p ≡ q = cc in (0, ap (λ x. Some (Data x)) same, sym (name_eq-true m p.name e ∙ ap (λ x. x.name) same))
      | false ↦ λ e g. let r = packet-found ps m q g in (suc r.0, r.1, r.2)
    ] refl h
packet-found (Ack layout from to base bits ∷ ps) m q h = let r = packet-found ps m q h in (suc r.0, r.1, r.2)

pub none-found : (ps : List Packet) (m : MsgName) → some_packet ps m ≡ None → has_some ps m ≡ false
unfolding some_packet has_some
none-found [] m h = refl
none-found (Data p ∷ ps) m h =
    elim (name_eq m p.name) as (λ b. cond b (Some p) (some_packet ps m) ≡ None → (b || has_some ps m) ≡ false) [
      | true ↦ λ g. absurd (cc)
      | false ↦ λ g. none-found ps m g
    ] h
none-found (Ack layout from to base bits ∷ ps) m h = none-found ps m h

-- Its fragments.
pub no-fragment : (ps : List Packet) (m : MsgName) (j : ℕ) → has_some ps m ≡ false → has_fragment ps m j ≡ false
unfolding has_some has_fragment
no-fragment [] m j h = refl
no-fragment (Data p ∷ ps) m j h =
    elim (name_eq m p.name) as (λ b. (b || has_some ps m) ≡ false → ((b && p.fragment == j) || has_fragment ps m j) ≡ false) [
      | true ↦ λ g. absurd (false≢true (sym g))
      | false ↦ λ g. no-fragment ps m j g
    ] h
no-fragment (Ack layout from to base bits ∷ ps) m j h = no-fragment ps m j h

pub fragment-there : (ps : List Packet) (k : ℕ) (p : DataPacket) → slice_get ps k ≡ Some (Data p) → has_fragment ps p.name p.fragment ≡ true
unfolding has_fragment
fragment-there ps k p at = any-get (is_fragment p.name p.fragment) ps k (Data p) at (and_from _ _ (name_eq-refl p.name) (eq-eqb p.fragment p.fragment refl))

-- the packet that a fragment's payload is of
pub record Holds (ps : List Packet) (m : MsgName) (j : ℕ) : Type 0 where
  pub place : ℕ
  pub packet : DataPacket
  pub at : slice_get ps place ≡ Some (Data packet)
  pub name : packet.name ≡ m
  pub fragment : packet.fragment ≡ j
  pub payload : payload_of ps m j ≡ packet.payload

pub payload-held : (ps : List Packet) (m : MsgName) (j : ℕ) → has_fragment ps m j ≡ true → Holds ps m j
unfolding has_fragment payload_of
payload-held [] m j h = absurd (false≢true h)
payload-held (Data p ∷ ps) m j h =
    elim (is_fragment m j (Data p)) as (λ b. is_fragment m j (Data p) ≡ b → (b || has_fragment ps m j) ≡ true → Holds (Data p ∷ ps) m j) [
      | true ↦ λ e _. let both = and_parts (name_eq m p.name) (p.fragment == j) e in record {
        place = 0;
        packet = p;
        at = refl;
        name = sym (name_eq-true m p.name both.0);
        fragment = eqb-true p.fragment j both.1;
        payload = ap (λ b. cond b p.payload (payload_of ps m j)) e;
      }
      | false ↦ λ e g. let r = payload-held ps m j g in record {
        place = suc r.place;
        packet = r.packet;
        at = r.at;
        name = r.name;
        fragment = r.fragment;
        payload = ap (λ b. cond b p.payload (payload_of ps m j)) e ∙ r.payload;
      }
    ] refl h
payload-held (Ack layout from to base bits ∷ ps) m j h =
    let r = payload-held ps m j h in record {
      place = suc r.place;
      packet = r.packet;
      at = r.at;
      name = r.name;
      fragment = r.fragment;
      payload = r.payload;
    }

pub no-payload : (ps : List Packet) (m : MsgName) (j : ℕ) → has_fragment ps m j ≡ false → payload_of ps m j ≡ []
unfolding has_fragment payload_of
no-payload [] m j h = refl
no-payload (Data p ∷ ps) m j h =
    elim (is_fragment m j (Data p)) as (λ b. (b || has_fragment ps m j) ≡ false → cond b p.payload (payload_of ps m j) ≡ []) [
      | true ↦ λ g. absurd (false≢true (sym g))
      | false ↦ λ g. no-payload ps m j g
    ] h
no-payload (Ack layout from to base bits ∷ ps) m j h = no-payload ps m j h
