-- What each event writes into the memory of its task, by what came in.
use Rattle.std.proofs.Common.{◌++◌, ◌≡◌, ℕ, ◌==◌, true, cond, List, [], ◌∷◌, refl, sym, ap, ◌∙◌, subst}
use Rattle.std.specs.List.{AllByRecursion}
use Rattle.std.proofs.lemmas.Bool.{cond-true, cond-false, false_from_ne_true, both_ways}
use Rattle.lapi_base.specs.declared.script.Script.{Script}
use Rattle.lapi_base.specs.declared.statement.Statement.{Statement}
use Rattle.lapi_base.specs.declared.rule.Rules.{Rules}
use Rattle.lapi_base.specs.declared.message.Leg.{Leg}
use Rattle.lapi_base.specs.declared.message.Leg.TheVariants.{Go, Back, Note, Echo, Join}
use Rattle.lapi_base.specs.declared.message.MsgName.{MsgName}
use Rattle.lapi_base.specs.declared.event.Event.{Event}
use Rattle.lapi_base.specs.declared.event.Event.TheVariants.{Issue, Land, End, Refuse, Enter, Pass, Copy, Head, Begin}
use Rattle.lapi_base.specs.declared.packet.Packet.{Packet}
use Rattle.lapi_base.specs.declared.packet.Packet.TheVariants.{Data, Ack}
use Rattle.lapi_base.specs.Record.Names.{Copied, happened, name_eq, Begun}
use Rattle.lapi_base.specs.Record.Operations.{statement, receiver, target, is_am, is_rmw, has_back, fragment_count}
use Rattle.lapi_base.specs.Record.Handlers.{number_of, word_bytes, buffer, answer_pieces}
use Rattle.lapi_base.specs.Record.Values.{Values, values, gathered, scattered, byte_after, new_word, at_target, at_origin, land_writes, store_writes, writes}
use Rattle.lapi_base.specs.Record.Atomic.{Atomic}
use Rattle.lapi_base.specs.Laws.Headline.{HoldsOfAtomic}
use Rattle.lapi_base.specs.Record.WorldView.{HoldsOfRecords}
use Rattle.lapi_base.specs.Laws.Entries.{IsOfNumber}
use Rattle.lapi_base.specs.Record.Arrived.{is_whole, assembled}
use Rattle.lapi_base.specs.Laws.Landing.{CarriedHaveLength, AllAreBytes, BuffersAreHeld, memory_at, BytesComeWhole, LandedAreWhole, OthersWriteNothing, StoresWrite, LandingsWrite, EndsWrite}
use Rattle.lapi_base.proofs.ListLaws.{all-weaker}
use Rattle.lapi_base.proofs.NameLaws.{happened-head, happened-later, name_eq-refl, name_eq-true}
use Rattle.lapi_base.proofs.TestLaws.{eqb-refl}
use Rattle.lapi_laws.proofs.Backward.{Atomic-head, Atomic-tail}
use Rattle.lapi_laws.proofs.Sound.{landed-copied, before}
use Rattle.lapi_parts.proofs.Records.{record-sound}
use Rattle.lapi_parts.proofs.ExactBytes.{Exact}
use Rattle.lapi_parts.proofs.CarriedLengths.{carried-length}
use Rattle.lapi_parts.proofs.SmallBytes.{values-small}
use Rattle.lapi_parts.proofs.WholeMessages.{assembled-bytes}
use Rattle.lapi_parts.proofs.Replay.{landed-whole, apart-memory}

module _ (script : Script) (rules : Rules) where
  number-exact : (J : List Event) (a b : ℕ) (p : Packet) → IsOfNumber script rules J a b p → Exact script rules J p
  number-exact J a b (Data p) h = h.1
  number-exact J a b (Ack layout from to base bits) h = tt

  -- a landing writes by the bytes of its message alone
  land-by : (v : Values) (bytes : MsgName → List ℕ) (m : MsgName) (leg : Leg) (s : Statement) → v.bytes m ≡ bytes m → land_writes script rules v m leg s ≡ land_writes script rules (record v { bytes = bytes }) m leg s
  land-by v bytes m Go s e =
      let at = at_target script rules m.origin m.statement in
      let word = number_of (gathered v.memory (target script m.origin m.statement) at) in
      ap (λ (bs : List ℕ). cond (is_am s) (scattered (buffer script rules m) bs) (cond (is_rmw s) (scattered at (word_bytes (new_word s word))) (cond (has_back s) [] (scattered at bs)))) e
  land-by v bytes m Back s e = ap (scattered (at_origin script rules m.origin m.statement)) e
  land-by v bytes m Note s e = refl
  land-by v bytes m Echo s e = ap (scattered (answer_pieces script m)) e
  land-by v bytes m (Join d) s e = refl

  own-place : (t : ℕ) (after before : ℕ) → cond (t == t) after before ≡ after
  own-place t after before = cond-true (t == t) after before (eqb-refl t)

  bytes-whole : (J : List Event) → Atomic script rules J → (m : MsgName) (a b : ℕ) (ps : List Packet) → happened (Copied m) J ≡ true → AllByRecursion (IsOfNumber script rules J a b) ps → is_whole script ps m ≡ true → assembled (fragment_count script m) ps m ≡ (values script rules J).bytes m
  bytes-whole J h m a b ps d of whole = assembled-bytes script rules J m ps h d (all-weaker (IsOfNumber script rules J a b) (Exact script rules J) (number-exact J a b) ps of) whole

  store-writes : (K : List Event) (a i x : ℕ) → memory_at script rules (Issue a i ∷ K) a x ≡ byte_after (store_writes script rules (statement script a i)) x (memory_at script rules K a x)
  unfolding values
  store-writes K a i x = own-place a (byte_after (store_writes script rules (statement script a i)) x (memory_at script rules K a x)) (memory_at script rules K a x)

  end-writes : (K : List Event) (m : MsgName) (t w x : ℕ) → memory_at script rules (End m t w ∷ K) t x ≡ byte_after (writes script rules (values script rules K) (End m t w)) x (memory_at script rules K t x)
  unfolding values
  end-writes K m t w x = own-place t (byte_after (writes script rules (values script rules K) (End m t w)) x (memory_at script rules K t x)) (memory_at script rules K t x)

  land-writes : (K : List Event) (m : MsgName) (x : ℕ) (bytes : MsgName → List ℕ) → (values script rules K).bytes m ≡ bytes m → memory_at script rules (Land m ∷ K) (receiver script m) x ≡ byte_after (land_writes script rules (record (values script rules K) { bytes = bytes }) m m.leg (statement script m.origin m.statement)) x (memory_at script rules K (receiver script m) x)
  unfolding values
  land-writes K m x bytes e =
      let v = values script rules K in
      let t = receiver script m in
      let s = statement script m.origin m.statement in
      own-place t (byte_after (land_writes script rules v m m.leg s) x (v.memory t x)) (v.memory t x)
      ∙ ap (λ ws. byte_after ws x (v.memory t x)) (land-by v bytes m m.leg s e)

-- the laws
pub come-whole : HoldsOfAtomic BytesComeWhole
come-whole script rules J h = λ m a b ps d of whole. bytes-whole script rules J h m a b ps d of whole

pub all-whole : HoldsOfRecords LandedAreWhole
all-whole script rules r is = λ m d. landed-whole script rules r (record-sound script rules r is) m d

pub others-nothing : HoldsOfAtomic OthersWriteNothing
others-nothing script rules J h = λ t x e K same apart. ap (λ L. memory_at script rules L t x) same ∙ apart-memory script rules t (λ m. []) K e x apart

pub stores-write : HoldsOfAtomic StoresWrite
stores-write script rules J h = λ a i x K same. ap (λ L. memory_at script rules L a x) same ∙ store-writes script rules K a i x

pub landings-write : HoldsOfAtomic LandingsWrite
landings-write script rules J h = λ m a b x ps K same of whole.
    let all = subst (Atomic script rules) same h in
    let own = Atomic-tail script rules (Land m) K all in
    let copied = before script rules (Copied m) (Land m) K (λ y. cc) (landed-copied script rules (Land m ∷ K) m all (happened-head (Land m) K)) in
    ap (λ L. memory_at script rules L (receiver script m) x) same
    ∙ land-writes script rules K m x (λ n. assembled (fragment_count script m) ps m) (sym (bytes-whole script rules K own m a b ps copied of whole))

pub ends-write : HoldsOfAtomic EndsWrite
ends-write script rules J h = λ m t w x K same. ap (λ L. memory_at script rules L t x) same ∙ end-writes script rules K m t w x

-- what a message carries, and what all hold
pub carried-have-length : HoldsOfAtomic CarriedHaveLength
carried-have-length script rules J h = λ m d. carried-length script rules J m h d

pub all-bytes : HoldsOfAtomic AllAreBytes
all-bytes script rules J h valid = let v = values-small script rules valid J in (v.memory, v.bytes, v.held)

-- a job holds its buffer
module _ (script : Script) (rules : Rules) where
  held-now : (J : List Event) (m : MsgName) (t w : ℕ) → (values script rules (Begin m t w ∷ J)).held m ≡ gathered (values script rules J).memory t (buffer script rules m)
  unfolding values
  held-now J m t w = cond-true (name_eq m m) (gathered (values script rules J).memory t (buffer script rules m)) ((values script rules J).held m) (name_eq-refl m)

  held-later : (J : List Event) (e : Event) (m : MsgName) → Atomic script rules (e ∷ J) → happened (Begun m) J ≡ true → (values script rules (e ∷ J)).held m ≡ (values script rules J).held m
  unfolding values
  held-later J (Begin n t w) m h d = cond-false (name_eq n m) _ ((values script rules J).held m) (false_from_ne_true _ (λ same. both_ways _ (Atomic-head script rules (Begin n t w) J h).once (subst (λ (k : MsgName). happened (Begun k) J ≡ true) (sym (name_eq-true n m same)) d)))
  held-later J (Issue a i) m h d = refl
  held-later J (Refuse a i why) m h d = refl
  held-later J (Enter a i) m h d = refl
  held-later J (Pass a i) m h d = refl
  held-later J (Copy n) m h d = refl
  held-later J (Head n) m h d = refl
  held-later J (Land n) m h d = refl
  held-later J (End n t w) m h d = refl

  held-all : (later J : List Event) (m : MsgName) (t w : ℕ) → Atomic script rules (later ++ Begin m t w ∷ J) → ((values script rules (later ++ Begin m t w ∷ J)).held m ≡ gathered (values script rules J).memory t (buffer script rules m)) × (happened (Begun m) (later ++ Begin m t w ∷ J) ≡ true)
  held-all [] J m t w h = (held-now J m t w, happened-head (Begin m t w) J)
  held-all (e ∷ later) J m t w h =
      let old = held-all later J m t w (Atomic-tail script rules e (later ++ Begin m t w ∷ J) h) in
      (held-later (later ++ Begin m t w ∷ J) e m h old.1 ∙ old.0, happened-later (Begun m) e (later ++ Begin m t w ∷ J) old.1)

pub buffers-held : HoldsOfAtomic BuffersAreHeld
buffers-held script rules J h = λ m t w later before e. ap (λ L. (values script rules L).held m) e ∙ (held-all script rules later before m t w (subst (Atomic script rules) e h)).0
