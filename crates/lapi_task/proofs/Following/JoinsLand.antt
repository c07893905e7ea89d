-- What the packets that come to a task leave it to know of rounds.
use Rattle.std.proofs.Common.{◌≡◌, ℕ, ◌<◌, ◌≤◌, ◌==◌, Bool, true, false, cond, ◌&&◌, ◌||◌, not, List, [], ◌∷◌, ◌++◌, length, Option, Some, None, refl, sym, ap, ◌∙◌, subst, arith}
use Rattle.std.specs.Prelude.{slice_get, nat_lt}
use Rattle.std.specs.List.{AllByRecursion}
use Rattle.std.proofs.lemmas.Bool.{false≢true, and_parts, and_right, and_left, or_left, or_right, not-true, eqb-true, ne_eqb, both_ways}
use Rattle.std.proofs.lemmas.List.{append-nil}
use Rattle.lapi_base.specs.declared.script.Script.{Script}
use Rattle.lapi_base.specs.declared.rule.Rules.{Rules}
use Rattle.lapi_base.specs.declared.event.Event.{Event}
use Rattle.lapi_base.specs.declared.event.Event.TheVariants.{Copy, Land}
use Rattle.lapi_base.specs.declared.handler.HeaderOut.{HeaderOut}
use Rattle.lapi_base.specs.declared.head.Head.{Head}
use Rattle.lapi_base.specs.declared.head.Head.TheVariants as heads
use Rattle.lapi_base.specs.declared.message.Leg.{Leg}
use Rattle.lapi_base.specs.declared.message.Leg.TheVariants.{Join}
use Rattle.lapi_base.specs.declared.message.MsgName.{MsgName}
use Rattle.lapi_base.specs.declared.packet.DataPacket.{DataPacket}
use Rattle.lapi_base.specs.declared.packet.Packet.TheVariants.{Data}
use Rattle.lapi_base.specs.declared.statement.Statement.{Statement}
use Rattle.lapi_base.specs.declared.statement.Statement.TheVariants as statements
use Rattle.lapi_base.specs.Laws.Receiving.{HeadFits}
use Rattle.lapi_base.specs.Laws.Rounds.{HasRound}
use Rattle.lapi_base.specs.Record.Acts.{followed}
use Rattle.lapi_base.specs.Record.Atomic.{Atomic}
use Rattle.lapi_base.specs.Record.Handlers.{answers}
use Rattle.lapi_base.specs.Record.HeadSays.{is_active, follows}
use Rattle.lapi_base.specs.Record.Names.{message, leg_eq, name_eq, happened, Entered, Landed}
use Rattle.lapi_base.specs.Record.Operations as operations
use Rattle.lapi_base.specs.Record.Operations.{statement, entry, is_gfence, is_table, has_leg, table_rounds}
use Rattle.lapi_base.specs.Record.Packets.{head_by}
use Rattle.lapi_base.specs.Record.Refusals.{gfence_rounds, round_of, join_landed, next}
use Rattle.lapi_base.specs.Record.Wires.{Run, IsEntry}
use Rattle.lapi_base.specs.Record.WorldView.{IsRecord}
use Rattle.lapi_base.proofs.BelowLaws.{below-member}
use Rattle.lapi_base.proofs.NameLaws.{happened-other}
use Rattle.lapi_base.proofs.TestLaws.{eqb-refl}
use Rattle.lapi_collect.specs.Rounds.{Joins}
use Rattle.lapi_laws.proofs.Backward.{Atomic-head}
use Rattle.lapi_parts.proofs.Deliveries.{facts}
use Rattle.lapi_parts.proofs.JoinedRounds.{joins-its-round, joins-no-other}
use Rattle.lapi_parts.proofs.RoundOrder.{rounds-in-order, fences-joined, tables-joined}
use Rattle.lapi_task.specs.declared.collective.Collective.{Collective}
use Rattle.lapi_task.specs.Answered.{completes_in}
use Rattle.lapi_task.specs.HasRounds.{has_entered, knows_join, AreJoined, HasRounds, MayJoinRound, HasJoined, MayJoin, JoinsBy}
use Rattle.lapi_task.specs.Landed.{Follower, called, events_of, ArrivalJoins}
use Rattle.lapi_task.proofs.Following.FollowerParts.{copies, follows-is}
use Rattle.lapi_task.proofs.Following.JobsLand.{before-followed}
use Rattle.lapi_task.proofs.Receiving.ReceiveEvents.{come, followed-append}
use Rattle.lapi_task.proofs.Joining.RoundsStay.{JoinsNone, rounds-stay}

or-none : (x : Bool) → (x || false) ≡ x
or-none true = refl
or-none false = refl

-- a statement of the other kind
other-kind : (fence : Bool) → (s : Statement) × (is_gfence s ≡ not fence)
other-kind true = (statements.Fence, refl)
other-kind false = (statements.Gfence, refl)

module _ (script : Script) (rules : Rules) (t : ℕ) where
  -- Message m is the Join to this task of another task's statement, which has this round among those of its kind.
  pub record JoinsRound (rounds : (task : ℕ) → List ℕ) (a round : ℕ) (m : MsgName) : Type 0 where
    pub statement : ℕ
    pub name : m ≡ message a statement (Join t)
    pub place : slice_get (rounds a) round ≡ Some statement
    pub other : (a == t) ≡ false

  -- The head of a message from task a says which round it joins, and with which address, if it is a Join.
  abbrev pub HeadJoins : (a : ℕ) → MsgName → Head → Type 0
  HeadJoins a m (heads.Gfence round) = JoinsRound (gfence_rounds script) a round m
  HeadJoins a m (heads.Addr round at) = JoinsRound (table_rounds script) a round m × (at ≡ entry script round a)
  HeadJoins a m _ = leg_eq (Join t) m.leg ≡ false

  -- ---- what a packet's head says

  joins_some : Head → Bool
  joins_some (heads.Gfence round) = true
  joins_some (heads.Addr round at) = true
  joins_some _ = false

  no-join : (ans : Bool) (m : MsgName) (leg : Leg) (s : Statement) → has_leg script ans m.origin leg s ≡ true → joins_some (head_by script m leg s) ≡ false → leg_eq (Join t) leg ≡ false
  unfolding joins_some
  no-join ans m (Join d) statements.Gfence g e = absurd (false≢true (sym e))
  no-join ans m (Join d) (statements.Addr at) g e = absurd (false≢true (sym e))
  no-join ans m (Join d) _ g e = absurd (false≢true g)
  no-join ans m _ s g e = refl

  module _ (r : Run) (is : IsRecord script rules r) (a k : ℕ) (p : DataPacket) (here : IsEntry r a t k (Data p)) where
    -- a task sends no Join to itself
    from-other : (i : ℕ) → p.name ≡ message a i (Join t) → (a == t) ≡ false
    from-other i e =
        let leg = (facts script rules r is a t k p here).leg in
        let there = subst (λ (m : MsgName). has_leg script (answers script rules m.origin m.statement) m.origin m.leg (statement script m.origin m.statement) ≡ true) e leg in
        let apart = (and_parts (nat_lt t script.tasks) _ (and_parts (operations.has_join (statement script a i)) _ there).1).1 in
        ne_eqb a t (λ same. both_ways _ (not-true _ apart) (subst (λ b. (t == b) ≡ true) (sym same) (eqb-refl t)))

    joins-by : (h : Head) → p.head ≡ h → HeadJoins a p.name h
    unfolding joins_some
    joins-by (heads.Gfence round) e =
        let x = fences-joined script rules r is a t k round p here e in
        record { statement = x.0; name = x.1; place = x.2; other = from-other x.0 x.1 }
    joins-by (heads.Addr round at) e =
        let x = tables-joined script rules r is a t k round at p here e in
        (record { statement = x.0; name = x.1; place = x.2; other = from-other x.0 x.1 }, x.3)
    joins-by h e =
        let f = facts script rules r is a t k p here in
        no-join _ p.name p.name.leg (statement script p.name.origin p.name.statement) f.leg (ap joins_some (sym f.head ∙ e))

    pub head-joins : HeadJoins a p.name p.head
    head-joins = joins-by p.head refl

  -- ---- events that join nobody

  -- The event joins nobody to a round, and moves no statement of the task.
  pub record LeavesRounds (e : Event) : Type 0 where
    pub none : JoinsNone t e
    pub next : (J : List Event) → next (e ∷ J) t ≡ next J t

  rounds-followed : (es J : List Event) (c : Collective) → AllByRecursion LeavesRounds es → HasRounds script t c J → HasRounds script t c (followed J es)
  unfolding followed
  rounds-followed [] J c l h = h
  rounds-followed (e ∷ es) J c l h = rounds-followed es (e ∷ J) c l.1 (let x = l.0 in rounds-stay script t e J x.none c c refl (x.next J) h)

  copy-leaves : (m : MsgName) → LeavesRounds (Copy m)
  unfolding next
  copy-leaves m = record { none = record { entered = λ i. refl; landed = λ d j. refl }; next = λ J. refl }

  head-leaves : (m : MsgName) → LeavesRounds (Event.Head m)
  unfolding next
  head-leaves m = record { none = record { entered = λ i. refl; landed = λ d j. refl }; next = λ J. refl }

  land-leaves : (m : MsgName) → leg_eq (Join t) m.leg ≡ false → LeavesRounds (Land m)
  unfolding next name_eq
  land-leaves m e = record {
    none = record { entered = λ i. refl; landed = λ d j. and_right (d == m.origin && j == m.statement) (leg_eq (Join t) m.leg) e };
    next = λ J. refl;
  }

  copies-leave : (o : Option Follower) → AllByRecursion LeavesRounds (copies o)
  copies-leave None = tt
  copies-leave (Some x) = (copy-leaves x.packet.name, tt)

  called-leaves : (first active : Bool) (m : MsgName) → AllByRecursion LeavesRounds (cond (first && active) (Event.Head m ∷ []) [])
  called-leaves true true m = (head-leaves m, tt)
  called-leaves true false m = tt
  called-leaves false active m = tt

  -- ---- the landing of a Join

  -- the round of a landing is that of its statement
  module _ (rounds : (task : ℕ) → List ℕ) (value : (round task : ℕ) → ℕ) (a i round : ℕ) (J : List Event) (other : (a == t) ≡ false) where
    abbrev join : MsgName
    join = message a i (Join t)

    abbrev is_own : (d r : ℕ) → Bool
    is_own d r = d == a && r == round

    entered-still : (o : Option ℕ) → has_entered (Land join ∷ J) t o ≡ has_entered J t o
    entered-still None = refl
    entered-still (Some j) = happened-other (Entered t j) (Land join) J refl

    -- nobody else joined, and this task joins itself by its own statements
    knows-more : (d r : ℕ) → join_landed (Land join ∷ J) t d (slice_get (rounds d) r) ≡ (join_landed J t d (slice_get (rounds d) r) || is_own d r) → knows_join (Land join ∷ J) t d (slice_get (rounds d) r) ≡ (knows_join J t d (slice_get (rounds d) r) || is_own d r)
    knows-more d r e =
        elim (d == t) as (λ b. (d == t) ≡ b → cond b (has_entered (Land join ∷ J) t (slice_get (rounds d) r)) (join_landed (Land join ∷ J) t d (slice_get (rounds d) r)) ≡ (cond b (has_entered J t (slice_get (rounds d) r)) (join_landed J t d (slice_get (rounds d) r)) || is_own d r)) [
          | true ↦ λ own.
              let apart : is_own d r ≡ false = and_left (d == a) (r == round) (ne_eqb d a (λ same. both_ways _ other (subst (λ x. (x == t) ≡ true) same own))) in
              entered-still (slice_get (rounds d) r) ∙ sym (or-none (has_entered J t (slice_get (rounds d) r))) ∙ ap (λ x. has_entered J t (slice_get (rounds d) r) || x) (sym apart)
          | false ↦ λ _. e
        ] refl

    value-more : (d r : ℕ) (knows : Bool) → cond (is_own d r) (Some (value round a)) (cond knows (Some (value r d)) None) ≡ cond (knows || is_own d r) (Some (value r d)) None
    value-more d r knows =
        elim (is_own d r) as (λ b. is_own d r ≡ b → cond b (Some (value round a)) (cond knows (Some (value r d)) None) ≡ cond (knows || b) (Some (value r d)) None) [
          | true ↦ λ own.
              let both = and_parts (d == a) (r == round) own in
              (λ k. Some (value (sym (eqb-true r round both.1) k) (sym (eqb-true d a both.0) k))) ∙ sym (ap (λ b. cond b (Some (value r d)) None) (or_right knows true refl))
          | false ↦ λ _. ap (λ b. cond b (Some (value r d)) None) (sym (or-none knows))
        ] refl

    own-joined : (before after : Joins) → ((d r : ℕ) → join_landed (Land join ∷ J) t d (slice_get (rounds d) r) ≡ (join_landed J t d (slice_get (rounds d) r) || is_own d r)) → HasJoined a round (value round a) before after → AreJoined script t rounds value before J → AreJoined script t rounds value after (Land join ∷ J)
    own-joined before after lands g h = record {
      tasks = g.tasks ∙ h.tasks;
      size = g.size ∙ h.size;
      joined = λ d r.
          g.joined d r
          ∙ ap (cond (is_own d r) (Some (value round a))) (h.joined d r)
          ∙ value-more d r (knows_join J t d (slice_get (rounds d) r))
          ∙ sym (ap (λ b. cond b (Some (value r d)) None) (knows-more d r (lands d r)));
    }

    -- of the other kind nobody joined
    other-joined : (joins : Joins) → ((d r : ℕ) → join_landed (Land join ∷ J) t d (slice_get (rounds d) r) ≡ join_landed J t d (slice_get (rounds d) r)) → AreJoined script t rounds value joins J → AreJoined script t rounds value joins (Land join ∷ J)
    other-joined joins lands h = record {
      tasks = h.tasks;
      size = h.size;
      joined = λ d r. h.joined d r ∙ (λ k. cond (cond (d == t) (sym (entered-still (slice_get (rounds d) r)) k) (sym (lands d r) k)) (Some (value r d)) None);
    }

  -- the rounds of fences, or those that give an address
  abbrev rounds_of : (fence : Bool) → (task : ℕ) → List ℕ
  rounds_of fence d = cond fence (gfence_rounds script d) (table_rounds script d)

  module _ (fence : Bool) (a i round : ℕ) (J : List Event) (atomic : Atomic script rules (Land (message a i (Join t)) ∷ J)) (has : HasRound script a i) (kind : is_gfence (statement script a i) ≡ fence) (place : slice_get (rounds_of fence a) round ≡ Some i) where
    abbrev then : List Event
    then = Land (message a i (Join t)) ∷ J

    own-round : round ≡ round_of script a i
    own-round = (rounds-in-order script a i round has).0 (subst (λ b. slice_get (rounds_of b a) round ≡ Some i) (sym kind) place)

    own-lands : (d r : ℕ) → join_landed then t d (slice_get (rounds_of fence d) r) ≡ (join_landed J t d (slice_get (rounds_of fence d) r) || (d == a && r == round))
    own-lands d r =
        subst (λ b. join_landed then t d (slice_get (rounds_of b d) r) ≡ (join_landed J t d (slice_get (rounds_of b d) r) || ((t == t && d == a) && r == round_of script a i))) kind
        (joins-its-round script rules then atomic a i t t d r J has refl)
        ∙ (λ k. join_landed J t d (slice_get (rounds_of fence d) r) || ((eqb-refl t k && d == a) && r == sym own-round k))

    other-lands : (d r : ℕ) → join_landed then t d (slice_get (rounds_of (not fence) d) r) ≡ join_landed J t d (slice_get (rounds_of (not fence) d) r)
    other-lands d r =
        let o = other-kind fence in
        subst (λ b. join_landed then t d (slice_get (rounds_of b d) r) ≡ join_landed J t d (slice_get (rounds_of b d) r)) o.1
        (joins-no-other script rules then atomic a i t t d r o.0 J has refl (o.1 ∙ ap not (sym kind)))

  entered-then : (m : MsgName) (J : List Event) (c : Collective) → HasRounds script t c J → c.entered ≡ happened (Entered t (next (Land m ∷ J) t)) (Land m ∷ J)
  unfolding next
  entered-then m J c h = h.entered ∙ sym (happened-other (Entered t (next J t)) (Land m) J refl)

  not-fence : (s : Statement) → is_table script s ≡ true → is_gfence s ≡ false
  not-fence statements.Gfence h = absurd (false≢true h)
  not-fence _ h = refl

  fence-landed : (a i round : ℕ) (J : List Event) (before after : Collective) → Atomic script rules (Land (message a i (Join t)) ∷ J) → slice_get (gfence_rounds script a) round ≡ Some i → (a == t) ≡ false → JoinsBy a (heads.Gfence round) before after → HasRounds script t before J → HasRounds script t after (Land (message a i (Join t)) ∷ J)
  unfolding gfence_rounds
  fence-landed a i round J before after atomic place other g h =
      let own = below-member (length (operations.statements script a)) (λ k. is_gfence (statement script a k)) round i place in
      let has : HasRound script a i = (own.0, or_left _ _ own.1) in
      let K = Land (message a i (Join t)) ∷ J in
      subst (λ c. HasRounds script t c K) (sym g.1) (record {
        entered = entered-then (message a i (Join t)) J before h;
        fences = own-joined (gfence_rounds script) (λ _ _. 0) a i round J other before.fences after.fences (own-lands true a i round J atomic has own.1 place) g.0 h.fences;
        tables = other-joined (table_rounds script) (entry script) a i round J other before.tables (other-lands true a i round J atomic has own.1 place) h.tables;
      })

  table-landed : (a i round : ℕ) (J : List Event) (before after : Collective) → Atomic script rules (Land (message a i (Join t)) ∷ J) → slice_get (table_rounds script a) round ≡ Some i → (a == t) ≡ false → JoinsBy a (heads.Addr round (entry script round a)) before after → HasRounds script t before J → HasRounds script t after (Land (message a i (Join t)) ∷ J)
  unfolding table_rounds
  table-landed a i round J before after atomic place other g h =
      let own = below-member (length (operations.statements script a)) (λ k. is_table script (statement script a k)) round i place in
      let has : HasRound script a i = (own.0, or_right _ _ own.1) in
      let kind = not-fence (statement script a i) own.1 in
      let K = Land (message a i (Join t)) ∷ J in
      subst (λ c. HasRounds script t c K) (sym g.1) (record {
        entered = entered-then (message a i (Join t)) J before h;
        fences = other-joined (gfence_rounds script) (λ _ _. 0) a i round J other before.fences (other-lands false a i round J atomic has kind place) h.fences;
        tables = own-joined (table_rounds script) (entry script) a i round J other before.tables after.tables (own-lands false a i round J atomic has kind place) g.0 h.tables;
      })

  landing-joins : (h : Head) (a : ℕ) (m : MsgName) (J : List Event) (before after : Collective) → Atomic script rules (Land m ∷ J) → HeadJoins a m h → JoinsBy a h before after → HasRounds script t before J → HasRounds script t after (Land m ∷ J)
  landing-joins (heads.Gfence round) a m J before after atomic j g h =
      subst (λ n. HasRounds script t after (Land n ∷ J)) (sym j.name)
      (fence-landed a j.statement round J before after (subst (λ n. Atomic script rules (Land n ∷ J)) j.name atomic) j.place j.other g h)
  landing-joins (heads.Addr round at) a m J before after atomic j g h =
      subst (λ n. HasRounds script t after (Land n ∷ J)) (sym j.0.name)
      (table-landed a j.0.statement round J before after (subst (λ n. Atomic script rules (Land n ∷ J)) j.0.name atomic) j.0.place j.0.other (subst (λ x. JoinsBy a (heads.Addr round x) before after) j.1 g) h)
  landing-joins _ a m J before after atomic j g h = let x = land-leaves m j in rounds-stay script t (Land m) J x.none before after g (x.next J) h

  -- What came took effect.
  pub rounds-come : (first whole : Bool) (m : MsgName) (h : Head) (bytes : List ℕ) (out : Option HeaderOut) (count a : ℕ) (before after : Collective) (J : List Event) →
      let arrival = come whole m h bytes out in
      let K = followed J (called first m h ++ events_of count arrival) in
      Atomic script rules K → HeadJoins a m h → ArrivalJoins a arrival before after → HasRounds script t before J → HasRounds script t after K
  unfolding followed
  rounds-come first false m h bytes out count a before after J atomic j g s =
      subst (λ es. HasRounds script t after (followed J es)) (sym (append-nil (called first m h)))
      (rounds-followed (called first m h) J after (called-leaves first (is_active h) m) (subst (λ c. HasRounds script t c J) (sym g) s))
  rounds-come first true m h bytes out count a before after J atomic j g s =
      let J0 = followed J (called first m h) in
      let es = follows h (completes_in count out) m in
      let whole : followed J (called first m h ++ Land m ∷ es) ≡ followed (Land m ∷ J0) es = followed-append (called first m h) (Land m ∷ es) J in
      let then : Atomic script rules (Land m ∷ J0) = before-followed script rules t es (Land m ∷ J0) (subst (Atomic script rules) whole atomic) in
      subst (HasRounds script t after) (sym whole)
      (rounds-followed es (Land m ∷ J0) after (subst (AllByRecursion LeavesRounds) (sym (follows-is 0 0 0 m (completes_in count out) [] h)) (copies-leave _))
      (landing-joins h a m J0 before after then j g (rounds-followed (called first m h) J before (called-leaves first (is_active h) m) s)))

  -- ---- before the landing

  round-free : (rounds : (task : ℕ) → List ℕ) (value : (round task : ℕ) → ℕ) (joins : Joins) (a round : ℕ) (m : MsgName) (J : List Event) → a < script.tasks → round ≤ 511 → JoinsRound rounds a round m → Atomic script rules (Land m ∷ J) → AreJoined script t rounds value joins J → MayJoinRound a round joins
  round-free rounds value joins a round m J known small j atomic h =
      let none : knows_join J t a (slice_get (rounds a) round) ≡ false =
      ap (λ o. knows_join J t a o) j.place
      ∙ ap (λ b. cond b (happened (Entered t j.statement) J) (happened (Landed (message a j.statement (Join t))) J)) j.other
      ∙ ap (λ n. happened (Landed n) J) (sym j.name)
      ∙ (Atomic-head script rules (Land m) J atomic).once in
      record {
        task_known = let e = h.tasks in omega (arith, known, e);
        round_known = let e = h.size in omega (arith, small, e);
        first = h.joined a round ∙ ap (λ b. cond b (Some (value round a)) None) none;
      }

  may-join : (h : Head) (a len : ℕ) (m : MsgName) (c : Collective) (J : List Event) → a < script.tasks → HeadFits script rules len h → HeadJoins a m h → Atomic script rules (Land m ∷ J) → HasRounds script t c J → MayJoin a h c
  may-join (heads.Gfence round) a len m c J known fits j atomic h = round-free (gfence_rounds script) (λ _ _. 0) c.fences a round m J known fits j atomic h.fences
  may-join (heads.Addr round at) a len m c J known fits j atomic h = round-free (table_rounds script) (entry script) c.tables a round m J known fits.0 j.0 atomic h.tables
  may-join _ a len m c J known fits j atomic h = tt

  -- Its origin may join the round that a message which comes whole names.
  pub joins-may : (first : Bool) (m : MsgName) (h : Head) (bytes : List ℕ) (out : Option HeaderOut) (count a len : ℕ) (c : Collective) (J : List Event) → Atomic script rules (followed J (called first m h ++ events_of count (come true m h bytes out))) → a < script.tasks → HeadFits script rules len h → HeadJoins a m h → HasRounds script t c J → MayJoin a h c
  unfolding followed
  joins-may first m h bytes out count a len c J atomic known fits j s =
      let J0 = followed J (called first m h) in
      let es = follows h (completes_in count out) m in
      let whole : followed J (called first m h ++ Land m ∷ es) ≡ followed (Land m ∷ J0) es = followed-append (called first m h) (Land m ∷ es) J in
      may-join h a len m c J0 known fits j (before-followed script rules t es (Land m ∷ J0) (subst (Atomic script rules) whole atomic))
      (rounds-followed (called first m h) J c (called-leaves first (is_active h) m) s)
