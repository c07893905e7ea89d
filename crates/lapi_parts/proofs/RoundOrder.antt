-- The rounds of collective calls: their order, their Joins, and what is known of them.
use Rattle.std.proofs.Common.{◌≡◌, ℕ, suc, ◌+◌, ◌<◌, ◌≤◌, ◌==◌, Bool, true, false, cond, ◌||◌, not, List, [], ◌∷◌, length, filter, Option, Some, None, refl, sym, ap, ◌∙◌, subst, ⊎_elim, arith, ◌⊎◌}
use Rattle.std.specs.Prelude.{slice_get, nat_lt, nat_le, unwrap_or, option_map}
use Rattle.std.proofs.lemmas.Bool.{false≢true, and_parts, both_ways, cond_both, cond-true, cond-false, or_cases, or_left, or_right, ltb-true, lt-ltb, le-ltb, le-leb, cases_lt, false_from_ne_true}
use Rattle.lapi_base.specs.declared.script.Script.{Script}
use Rattle.lapi_base.specs.declared.rule.Rules.{Rules}
use Rattle.lapi_base.specs.declared.statement.Statement.{Statement}
use Rattle.lapi_base.specs.declared.statement.Statement.TheVariants.{Put, Get, Putv, Getv, Rmw, Am, Gfence}
use Rattle.lapi_base.specs.declared.message.Leg.{Leg}
use Rattle.lapi_base.specs.declared.message.Leg.TheVariants.{Go, Back, Note, Echo, Join}
use Rattle.lapi_base.specs.declared.message.MsgName.{MsgName}
use Rattle.lapi_base.specs.declared.event.Event.{Event}
use Rattle.lapi_base.specs.declared.event.Event.TheVariants.{Issue, Refuse, Enter, Pass, Copy, Head, Land, Begin, End}
use Rattle.lapi_base.specs.declared.head.Head.{Head as PacketHead}
use Rattle.lapi_base.specs.declared.head.Head.TheVariants as heads
use Rattle.lapi_base.specs.declared.packet.DataPacket.{DataPacket}
use Rattle.lapi_base.specs.Record.Below.{below}
use Rattle.lapi_base.specs.Record.Names.{message, Issued, Refused, Entered, Passed, Copied, Landed, key_of, happened}
use Rattle.lapi_base.specs.Record.Operations.{statements, statement, target, is_gfence, is_addr, is_table, has_join, has_leg, table_rounds, entry, given_address, to_by, from_by, address}
use Rattle.lapi_base.specs.Record.Refusals.{option_any, next, gfence_rounds, round_of, partner, join_landed, joined, refusal_of, refusal_by, first_reason}
use Rattle.lapi_base.specs.Record.Packets.{head_by}
use Rattle.lapi_base.specs.Record.Atomic.{Atomic, is_issued, pass_allowed}
use Rattle.lapi_base.specs.Record.Wires.{Run}
use Rattle.lapi_base.specs.Record.WorldView.{HoldsOfRecords}
use Rattle.lapi_base.specs.Laws.Headline.{HoldsOfAtomic}
use Rattle.lapi_base.specs.Laws.Rounds.{RoundsAreInOrder, IsJoinOf, FencesAreJoined, TablesAreJoined, PassedAreJoined, KnownArePassed}
use Rattle.lapi_base.proofs.BelowLaws.{below-front, below-all, length-below-suc, length-below-le, every_below-at, every_below-from, below-member}
use Rattle.lapi_base.proofs.ListLaws.{get-none, filter-all, all-weaker}
use Rattle.lapi_base.proofs.NameLaws.{happened-nil, happened-cases, happened-later}
use Rattle.lapi_laws.proofs.Backward.{Atomic-head, Atomic-tail, there, behind}
use Rattle.lapi_laws.proofs.Places.{place-below}
use Rattle.lapi_laws.proofs.Turns.{below-place}
use Rattle.lapi_laws.proofs.TakenStatements.{Taken, taken, kind}
use Rattle.lapi_parts.proofs.Accepted.{copied-accepted, entered-accepted, Accepted}
use Rattle.lapi_parts.proofs.Deliveries.{Facts, facts}

-- ---- the order of rounds

order-in : (n : ℕ) (p : ℕ → Bool) (i round : ℕ) → i < n → p i ≡ true → (slice_get (below n p) round ≡ Some i → round ≡ length (filter (λ j. nat_lt j i) (below n p))) × (round ≡ length (filter (λ j. nat_lt j i) (below n p)) → slice_get (below n p) round ≡ Some i)
order-in n p i round l h = (λ at. sym (place-below n p round i at), λ e. subst (λ k. slice_get (below n p) k ≡ Some i) (sym e) (below-place n p i l h))

or-false : (a b : Bool) → a ≡ false → (a || b) ≡ true → b ≡ true
or-false false b e h = h
or-false true b e h = absurd (false≢true (sym e))

pub rounds-in-order : RoundsAreInOrder
unfolding round_of gfence_rounds table_rounds
rounds-in-order script a i round has =
    let s = statement script a i in
    let count = length (statements script a) in
    elim (is_gfence s) as (λ g. is_gfence s ≡ g → (slice_get (cond g (gfence_rounds script a) (table_rounds script a)) round ≡ Some i → round ≡ length (filter (λ j. nat_lt j i) (cond g (gfence_rounds script a) (table_rounds script a)))) × (round ≡ length (filter (λ j. nat_lt j i) (cond g (gfence_rounds script a) (table_rounds script a))) → slice_get (cond g (gfence_rounds script a) (table_rounds script a)) round ≡ Some i)) [
      | true ↦ λ g. order-in count (λ k. is_gfence (statement script a k)) i round has.0 g
      | false ↦ λ g. order-in count (λ k. is_table script (statement script a k)) i round has.0 (or-false (is_gfence s) (is_table script s) g has.1)
    ] refl

-- ---- the Joins that come

module _ (script : Script) (rules : Rules) where
  round_in : PacketHead → ℕ
  round_in (heads.Gfence round) = round
  round_in (heads.Addr round at) = round
  round_in _ = 0

  given_in : PacketHead → ℕ
  given_in (heads.Addr round at) = at
  given_in _ = 0

  abbrev IsJoin : MsgName → Leg → ℕ → Type 0
  IsJoin m leg round = ((d : ℕ) × (leg ≡ Join d)) × (round ≡ round_of script m.origin m.statement)

  fence-by : (answers : Bool) (m : MsgName) (leg : Leg) (s : Statement) (round : ℕ) → has_leg script answers m.origin leg s ≡ true → head_by script m leg s ≡ heads.Gfence round → IsJoin m leg round × (is_gfence s ≡ true)
  unfolding round_in
  fence-by ans m (Join d) Gfence round h e = (((d, refl), ap round_in (sym e)), refl)
  fence-by ans m (Join d) (Statement.Addr at) round h e = absurd (cc)
  fence-by ans m Go (Put task to from len t o c) round h e = absurd (cc)
  fence-by ans m Go (Putv task to from t o c) round h e = absurd (cc)
  fence-by ans m Go (Get task from to len t o) round h e = absurd (cc)
  fence-by ans m Go (Getv task from to t o) round h e = absurd (cc)
  fence-by ans m Go (Rmw task op at in1 in2 prev o) round h e = absurd (cc)
  fence-by ans m Go (Am task handler header from len t o c) round h e = absurd (cc)
  fence-by ans m Back (Get task from to len t o) round h e = absurd (cc)
  fence-by ans m Back (Getv task from to t o) round h e = absurd (cc)
  fence-by ans m Back (Rmw task op at in1 in2 prev o) round h e = absurd (cc)
  fence-by ans m Note s round h e = absurd (cc)
  fence-by ans m Echo s round h e = absurd (cc)
  fence-by ans m _ s round h e = absurd (false≢true h)

  table-by : (answers : Bool) (m : MsgName) (leg : Leg) (s : Statement) (round at : ℕ) → has_leg script answers m.origin leg s ≡ true → head_by script m leg s ≡ heads.Addr round at → IsJoin m leg round × (is_addr s ≡ true) × (at ≡ given_address s)
  unfolding round_in given_in
  table-by ans m (Join d) (Statement.Addr x) round at h e = (((d, refl), ap round_in (sym e)), refl, ap given_in (sym e))
  table-by ans m (Join d) Gfence round at h e = absurd (cc)
  table-by ans m Go (Put task to from len t o c) round at h e = absurd (cc)
  table-by ans m Go (Putv task to from t o c) round at h e = absurd (cc)
  table-by ans m Go (Get task from to len t o) round at h e = absurd (cc)
  table-by ans m Go (Getv task from to t o) round at h e = absurd (cc)
  table-by ans m Go (Rmw task op x in1 in2 prev o) round at h e = absurd (cc)
  table-by ans m Go (Am task handler header from len t o c) round at h e = absurd (cc)
  table-by ans m Back (Get task from to len t o) round at h e = absurd (cc)
  table-by ans m Back (Getv task from to t o) round at h e = absurd (cc)
  table-by ans m Back (Rmw task op x in1 in2 prev o) round at h e = absurd (cc)
  table-by ans m Note s round at h e = absurd (cc)
  table-by ans m Echo s round at h e = absurd (cc)
  table-by ans m _ s round at h e = absurd (false≢true h)

  -- an accepted address is one of a table
  table-of : (d : ℕ) (s : Statement) → is_addr s ≡ true → Accepted script rules d s → is_table script s ≡ true
  unfolding address
  table-of d (Statement.Addr at) h x = let within : at + 0 ≤ script.memory = x.from.0 in le-leb at script.memory (omega arith)
  table-of d _ h x = absurd (false≢true h)

  not-gfence : (s : Statement) → is_addr s ≡ true → is_gfence s ≡ false
  not-gfence (Statement.Addr at) h = refl
  not-gfence _ h = absurd (false≢true h)

  -- where the rounds of a statement stand
  fence-place : (a i round : ℕ) → i < length (statements script a) → is_gfence (statement script a i) ≡ true → round ≡ round_of script a i → slice_get (gfence_rounds script a) round ≡ Some i
  fence-place a i round l g e =
      subst (λ xs. slice_get xs round ≡ Some i) (cond-true (is_gfence (statement script a i)) (gfence_rounds script a) (table_rounds script a) g)
      ((rounds-in-order script a i round (l, or_left _ _ g)).1 e)

  table-place : (a i round : ℕ) → i < length (statements script a) → is_addr (statement script a i) ≡ true → is_table script (statement script a i) ≡ true → round ≡ round_of script a i → slice_get (table_rounds script a) round ≡ Some i
  table-place a i round l addr t e =
      subst (λ xs. slice_get xs round ≡ Some i) (cond-false (is_gfence (statement script a i)) (gfence_rounds script a) (table_rounds script a) (not-gfence (statement script a i) addr))
      ((rounds-in-order script a i round (l, or_right _ _ t)).1 e)

  module _ (r : Run) (a b : ℕ) (p : DataPacket) (f : Facts script rules r a b p) where
    within : p.name.statement < length (statements script p.name.origin)
    within = ltb-true _ _ (and_parts _ _ (and_parts _ _ (there script rules (Copied p.name) r.journal f.atomic f.copied)).0).1

    from-a : (d : ℕ) → p.name.leg ≡ Join d → p.name.origin ≡ a
    from-a d leg = ap (λ l. from_by p.name.origin (target script p.name.origin p.name.statement) l) (sym leg) ∙ f.sent

    join-of : (d : ℕ) → p.name.leg ≡ Join d → IsJoinOf script rules p p.name.statement a b
    join-of d leg =
        let at-b : d ≡ b = ap (λ l. to_by p.name.origin (target script p.name.origin p.name.statement) l) (sym leg) ∙ f.place in
        let o = from-a d leg in
        let l : p.name.leg ≡ Join b = leg ∙ ap Join at-b in
        λ i. record { origin = o i; statement = p.name.statement; leg = l i }

    abbrev own : Statement
    own = statement script p.name.origin p.name.statement

    fence-joins : (round : ℕ) → p.head ≡ heads.Gfence round → (i : ℕ) × IsJoinOf script rules p i a b × (slice_get (gfence_rounds script a) round ≡ Some i)
    fence-joins round e =
        let x = fence-by _ p.name p.name.leg own round f.leg (sym f.head ∙ e) in
        let o = from-a x.0.0.0 x.0.0.1 in
        (p.name.statement, join-of x.0.0.0 x.0.0.1, subst (λ t. slice_get (gfence_rounds script t) round ≡ Some p.name.statement) o (fence-place p.name.origin p.name.statement round within x.1 x.0.1))

    table-joins : (round at : ℕ) → p.head ≡ heads.Addr round at → (i : ℕ) × IsJoinOf script rules p i a b × (slice_get (table_rounds script a) round ≡ Some i) × (at ≡ entry script round a)
    unfolding entry
    table-joins round at e =
        let x = table-by _ p.name p.name.leg own round at f.leg (sym f.head ∙ e) in
        let o = from-a x.0.0.0 x.0.0.1 in
        let t = table-of (target script p.name.origin p.name.statement) own x.1 (copied-accepted script rules r.journal p.name f.atomic f.copied) in
        let place = subst (λ q. slice_get (table_rounds script q) round ≡ Some p.name.statement) o (table-place p.name.origin p.name.statement round within x.1 t x.0.1) in (
          p.name.statement,
          join-of x.0.0.0 x.0.0.1,
          place,
          x.2 ∙ ap (λ q. given_address (statement script q p.name.statement)) o ∙ ap (λ (found : Option ℕ). unwrap_or (option_map (λ i. given_address (statement script a i)) found) 0) (sym place),
        )

  -- ---- what is passed is joined

  landed-later : (e : Event) (J : List Event) (a d : ℕ) (o : Option ℕ) → join_landed J a d o ≡ true → join_landed (e ∷ J) a d o ≡ true
  landed-later e J a d None h = absurd (false≢true h)
  landed-later e J a d (Some j) h = happened-later (Landed (message d j (Join a))) e J h

  joined-later : (e : Event) (J : List Event) (a i : ℕ) → joined script J a i ≡ true → joined script (e ∷ J) a i ≡ true
  unfolding joined
  joined-later e J a i h =
      every_below-from script.tasks (λ d. d == a || join_landed (e ∷ J) a d (partner script a i d)) (λ d l.
      ⊎_elim
      (λ (x : (d == a) ≡ true). or_left _ _ x)
      (λ (x : join_landed J a d (partner script a i d) ≡ true). or_right _ _ (landed-later e J a d (partner script a i d) x))
      (or_cases _ _ (every_below-at script.tasks (λ d. d == a || join_landed J a d (partner script a i d)) d h l)))

  -- an address that is passed was joined
  addr-allowed : (J : List Event) (a i : ℕ) (s : Statement) → is_addr s ≡ true → is_table script s ≡ true → pass_allowed script rules J a i s ≡ true → joined script J a i ≡ true
  addr-allowed J a i (Statement.Addr at) h t x = or-false (not (nat_le at script.memory)) (joined script J a i) (ap not t) x
  addr-allowed J a i _ h t x = absurd (false≢true h)

  addr-joins : (s : Statement) → is_addr s ≡ true → has_join s ≡ true
  addr-joins s h = or_right _ _ h

  pass-joined : (J : List Event) (a i : ℕ) → Atomic script rules (Pass a i ∷ J) → is_addr (statement script a i) ≡ true → joined script J a i ≡ true
  pass-joined J a i h addr =
      let k = Atomic-head script rules (Pass a i) J h in
      let s = statement script a i in
      let entered : happened (Entered a i) J ≡ true = subst (λ c. cond c (happened (Entered a i) J ≡ true) (refusal_of script rules J a i ≡ None)) (addr-joins s addr) k.order.1 in
      let t = table-of (target script a i) s addr (entered-accepted script rules J a i (Atomic-tail script rules (Pass a i) J h) entered) in
      addr-allowed J a i s addr t k.waits

  passed-joined : (J : List Event) (a i : ℕ) → Atomic script rules J → is_addr (statement script a i) ≡ true → happened (Passed a i) J ≡ true → joined script J a i ≡ true
  passed-joined [] a i h addr d = absurd (both_ways _ (happened-nil (Passed a i)) d)
  passed-joined (e ∷ J) a i h addr d =
      joined-later e J a i
      (⊎_elim
      (λ (x : Passed a i ≡ key_of e). now e x h)
      (λ (x : happened (Passed a i) J ≡ true). passed-joined J a i (Atomic-tail script rules e J h) addr x)
      (happened-cases (Passed a i) e J d))
    where
      now : (f : Event) → Passed a i ≡ key_of f → Atomic script rules (f ∷ J) → joined script J a i ≡ true
      now (Pass b j) x g =
          let tasks : a ≡ b = cc in
          let numbers : i ≡ j = cc in
          pass-joined J a i (subst (λ k. Atomic script rules (Pass a k ∷ J)) (sym numbers) (subst (λ t. Atomic script rules (Pass t j ∷ J)) (sym tasks) g)) addr
      now (Issue b j) x g = absurd (let y : ⊥ = cc in y)
      now (Refuse b j why) x g = absurd (let y : ⊥ = cc in y)
      now (Enter b j) x g = absurd (let y : ⊥ = cc in y)
      now (Copy m) x g = absurd (let y : ⊥ = cc in y)
      now (Head m) x g = absurd (let y : ⊥ = cc in y)
      now (Land m) x g = absurd (let y : ⊥ = cc in y)
      now (Begin m t w) x g = absurd (let y : ⊥ = cc in y)
      now (End m t w) x g = absurd (let y : ⊥ = cc in y)

  -- ---- what is known is passed

  table-addr : (s : Statement) → is_table script s ≡ true → (at : ℕ) × (s ≡ Statement.Addr at) × (nat_le at script.memory ≡ true)
  table-addr (Statement.Addr at) h = (at, refl, h)
  table-addr _ h = absurd (false≢true h)

  -- no address round is issued, or refused
  never-issued : (s : Statement) → is_table script s ≡ true → is_issued s ≡ true → ⊥
  never-issued (Statement.Addr at) h g = false≢true g
  never-issued _ h g = false≢true h

  never-refused : (J : List Event) (a i : ℕ) → is_table script (statement script a i) ≡ true → refusal_of script rules J a i ≡ None
  unfolding refusal_of refusal_by first_reason address
  never-refused J a i t =
      let x = table-addr (statement script a i) t in
      let zero-more : x.0 + 0 ≡ x.0 = omega arith in
      rw x.1 (rw zero-more (rw x.2 refl))

  passed-is : (J : List Event) (a i : ℕ) → Atomic script rules J → is_table script (statement script a i) ≡ true → happened (Passed a i) J ≡ nat_lt i (next J a)
  passed-is J a i h t =
      ⊎_elim
      (λ (lt : i < next J a). over (taken script rules J h a i lt) ∙ sym (lt-ltb i (next J a) lt))
      (λ (ge : next J a ≤ i). false_from_ne_true _ (λ d. let back = behind script rules (Passed a i) J h d in absurd (omega arith)) ∙ sym (le-ltb i (next J a) ge))
      (cases_lt i (next J a))
    where
      over : Taken script rules J a i → happened (Passed a i) J ≡ true
      over x =
          ⊎_elim
          (λ (y : happened (Issued a i) J ≡ true). absurd (never-issued (statement script a i) t (kind script rules (Issued a i) J h y)))
          (λ (z : (happened (Refused a i) J ≡ true) ⊎ (happened (Passed a i) J ≡ true)).
          ⊎_elim
          (λ (y : happened (Refused a i) J ≡ true). let k = kind script rules (Refused a i) J h y in absurd (let e : None ≡ Some k.1 = sym (never-refused k.0 a i t) ∙ k.2 in cc))
          (λ (y : happened (Passed a i) J ≡ true). y)
          z)
          x

all-before : (n : ℕ) (p : ℕ → Bool) (bound : ℕ) → n ≤ bound → filter (λ j. nat_lt j bound) (below n p) ≡ below n p
all-before n p bound l = filter-all (λ j. nat_lt j bound) (below n p) (all-weaker (λ k. (k < n) × (p k ≡ true)) (λ k. nat_lt k bound ≡ true) (λ k h. lt-ltb k bound (let q = h.0 in omega arith)) (below n p) (below-all n p))

filter-few : (t : ℕ → Bool) (xs : List ℕ) → length (filter t xs) ≤ length xs
filter-few t [] = omega arith
filter-few t (x ∷ xs) = let old = filter-few t xs in cond_both (t x) (x ∷ filter t xs) (filter t xs) (λ ys. length ys ≤ suc (length xs)) (λ _. omega arith) (λ _. omega arith)

-- of numbers that pass a test, in order, number i is below a bound exactly where its place is below how many are
place-before : (n : ℕ) (p : ℕ → Bool) (k i bound : ℕ) → slice_get (below n p) k ≡ Some i → nat_lt i bound ≡ nat_lt k (length (filter (λ j. nat_lt j bound) (below n p)))
place-before n p k i bound at =
    let own = below-member n p k i at in
    let place = sym (ap length (below-front n p i (let l = own.0 in let q : i ≤ n = omega arith in q))) ∙ place-below n p k i at in
    let more = length-below-suc i p in
    let one : cond {A = ℕ} (p i) 1 0 ≡ 1 = ap (λ b. cond b 1 0) own.1 in
    ⊎_elim
    (λ (small : bound < n).
    let all = ap length (below-front n p bound (let q : bound ≤ n = omega arith in q)) in
    ⊎_elim
    (λ (lt : i < bound). let up = length-below-le (suc i) bound p (let q : suc i ≤ bound = omega arith in q) in lt-ltb i bound lt ∙ sym (lt-ltb k _ (let q : k < length (filter (λ j. nat_lt j bound) (below n p)) = omega arith in q)))
    (λ (ge : bound ≤ i). let up = length-below-le bound i p ge in le-ltb i bound ge ∙ sym (le-ltb k _ (let q : length (filter (λ j. nat_lt j bound) (below n p)) ≤ k = omega arith in q)))
    (cases_lt i bound))
    (λ (large : n ≤ bound).
    let l = own.0 in
    let all = ap length (all-before n p bound large) in
    let up = length-below-le (suc i) n p (let q : suc i ≤ n = omega arith in q) in
    lt-ltb i bound (let q : i < bound = omega arith in q) ∙ sym (lt-ltb k _ (let q : k < length (filter (λ j. nat_lt j bound) (below n p)) = omega arith in q)))
    (cases_lt bound n)

module _ (script : Script) (rules : Rules) where
  known-is : (J : List Event) (a round : ℕ) → Atomic script rules J → option_any (λ i. happened (Passed a i) J) (slice_get (table_rounds script a) round) ≡ nat_lt round (length (filter (λ i. nat_lt i (next J a)) (table_rounds script a)))
  unfolding table_rounds
  known-is J a round h =
      let count = length (statements script a) in
      let p = λ (i : ℕ). is_table script (statement script a i) in
      elim (slice_get (below count p) round) as (λ o. slice_get (below count p) round ≡ o → option_any (λ i. happened (Passed a i) J) o ≡ nat_lt round (length (filter (λ i. nat_lt i (next J a)) (below count p)))) [
        | Some i ↦ λ at. passed-is script rules J a i h (below-member count p round i at).1 ∙ place-before count p round i (next J a) at
        | None ↦ λ out.
            let long = get-none (below count p) round out in
            let few = filter-few (λ i. nat_lt i (next J a)) (below count p) in
            sym (le-ltb round _ (let q : length (filter (λ i. nat_lt i (next J a)) (below count p)) ≤ round = omega arith in q))
      ] refl

-- the laws
pub fences-joined : HoldsOfRecords FencesAreJoined
fences-joined script rules r is = λ a b k round p at e. fence-joins script rules r a b p (facts script rules r is a b k p at) round e

pub tables-joined : HoldsOfRecords TablesAreJoined
tables-joined script rules r is = λ a b k round at p entry e. table-joins script rules r a b p (facts script rules r is a b k p entry) round at e

pub passed-are-joined : HoldsOfAtomic PassedAreJoined
passed-are-joined script rules J h = λ a i addr d. passed-joined script rules J a i h addr d

pub known-are-passed : HoldsOfAtomic KnownArePassed
known-are-passed script rules J h = λ a round offset. known-is script rules J a round h
