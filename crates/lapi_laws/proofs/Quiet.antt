-- Once everything is delivered a record is quiet; a quiet record is final, and nothing happens from it without a step.
use Rattle.std.proofs.Common.{◌≡◌, ◌⊎◌, ℕ, zero, suc, ◌+◌, ◌<◌, ◌≤◌, ◌==◌, Bool, true, false, cond, ◌&&◌, not, List, [], ◌∷◌, ◌++◌, length, filter, map, Option, Some, None, refl, sym, ap, ◌∙◌, subst, ⊎_elim, inl, inr, arith}
use Rattle.std.specs.Prelude.{nat_lt, is_some, unwrap_or}
use Rattle.std.specs.List.{list_any, list_all, flat_map}
use Rattle.std.proofs.lemmas.Bool.{false≢true, and_parts, and_from, both_ways, cond_both, cond-true, cond-false, eqb-true, or_cases, or_right, or_left, ltb-true, lt-ltb, cases_lt, false_from_ne_true, true_from_ne_false, not-true, not-false, not_from_false}
use Rattle.std.proofs.lemmas.Option.{slice_get_within}
use Rattle.std.proofs.lemmas.List.{append-nil, map-append}
use Rattle.std.proofs.lemmas.List.Elements.{filter-append}
use Rattle.std.proofs.lemmas.List.Folds.{list_any-append, list_all-append}
use Rattle.std.proofs.lemmas.Grind.{flat_map-append}
use Rattle.lapi_base.specs.Packet.Layout.{window_of}
use Rattle.lapi_base.specs.declared.script.Script.{Script}
use Rattle.lapi_base.specs.declared.statement.Statement.{Statement}
use Rattle.lapi_base.specs.declared.statement.Statement.TheVariants.{Store, Put, Get, Putv, Getv, Rmw, Am, Wait, Set, Read, Fence, Gfence}
use Rattle.lapi_base.specs.declared.rule.Rules.{Rules}
use Rattle.lapi_base.specs.declared.message.MsgName.{MsgName}
use Rattle.lapi_base.specs.declared.event.Event.{Event}
use Rattle.lapi_base.specs.declared.event.Event.TheVariants.{Issue, Refuse, Enter, Pass, Copy, Head, Land, Begin, End}
use Rattle.lapi_base.specs.Record.Below.{below, least_missing}
use Rattle.lapi_base.specs.Record.Names.{name_eq, EventKey, Issued, Copied, Landed, Begun, Ended, key_of, happened}
use Rattle.lapi_base.specs.Record.Operations.{numbers_below, statement, is_data, has_back, has_join, cmpl_counter, target_of, target, sender, receiver}
use Rattle.lapi_base.specs.Record.Refusals.{option_any, first_reason, refusal_of, refusal_by}
use Rattle.lapi_base.specs.Record.Jobs.{is_job, landed_jobs, queue, runs}
use Rattle.lapi_base.specs.Record.Atomic.{Atomic, Keeps}
use Rattle.lapi_base.specs.Record.Wires.{Run, numbered, has_ack, is_sent, is_acked, base, to_send}
use Rattle.lapi_base.specs.Record.Final.{Resting, Quiet}
use Rattle.lapi_base.proofs.BelowLaws.{below-lacks, least_missing-least, least_missing-not}
use Rattle.lapi_base.proofs.LayoutLaws.{window-positive}
use Rattle.lapi_base.proofs.ListLaws.{some-same}
use Rattle.lapi_base.proofs.NameLaws.{happened-cases, happened-head, happened-later, happened-nil, name_eq-refl, name_eq-true}
use Rattle.lapi_base.proofs.TestLaws.{eqb-refl}
use Rattle.lapi_laws.proofs.Backward.{Atomic-head, Atomic-tail, shown}
use Rattle.lapi_laws.proofs.Workers.{is_run-some}
use Rattle.lapi_laws.proofs.Lines.{SoundRun}
use Rattle.lapi_laws.proofs.Sound.{before, acked-delivered}

-- what each place below n gives passes
pub numbers_below-each : {X : Type 0} (t : X → Bool) (f : ℕ → List X) (n i : ℕ) → list_all t (flat_map f (numbers_below n)) ≡ true → i < n → list_all t (f i) ≡ true
unfolding numbers_below below
numbers_below-each t f zero i h l = absurd (omega arith)
numbers_below-each t f (suc n) i h l =
    let both = and_parts _ _ (sym (list_all-append t (flat_map f (numbers_below n)) (flat_map f (n ∷ []))) ∙ ap (list_all t) (sym (flat_map-append f (numbers_below n) (n ∷ []))) ∙ h) in
    ⊎_elim
    (λ (lt : i < n). numbers_below-each t f n i both.0 lt)
    (λ (ge : n ≤ i). let same : n ≡ i = omega arith in subst (λ k. list_all t (f k) ≡ true) same (sym (ap (list_all t) (append-nil (f n))) ∙ both.1))
    (cases_lt i n)

pub joins-each : {X : Type 0} (t : X → Bool) (g : ℕ → X) (p : ℕ → Bool) (n d : ℕ) → list_all t (map g (filter p (numbers_below n))) ≡ true → d < n → p d ≡ true → t (g d) ≡ true
unfolding numbers_below below
joins-each t g p zero d h l e = absurd (omega arith)
joins-each t g p (suc n) d h l e =
    let both = and_parts _ _ (sym (list_all-append t (map g (filter p (numbers_below n))) (map g (filter p (n ∷ [])))) ∙ ap (list_all t) (sym (map-append g (filter p (numbers_below n)) (filter p (n ∷ [])))) ∙ ap (λ xs. list_all t (map g xs)) (sym (filter-append p (numbers_below n) (n ∷ []))) ∙ h) in
    ⊎_elim
    (λ (lt : d < n). joins-each t g p n d both.0 lt e)
    (λ (ge : n ≤ d).
    let same : d ≡ n = omega arith in
    let pass = subst (λ k. p k ≡ true) same e in
    let one = subst (λ xs. list_all t (map g xs) ≡ true) (cond-true (p n) (n ∷ []) [] pass) both.1 in
    subst (λ k. t (g k) ≡ true) (sym same) (and_parts _ _ one).0)
    (cases_lt d n)

-- a test that no element passes
none-left : (t : MsgName → Bool) (m : MsgName) (xs : List MsgName) → filter t xs ≡ [] → list_any (name_eq m) xs ≡ true → t m ≡ false
none-left t m [] e h = absurd (false≢true h)
none-left t m (x ∷ xs) e h =
    elim (t x) as (λ b. t x ≡ b → cond b (x ∷ filter t xs) (filter t xs) ≡ [] → t m ≡ false) [
      | true ↦ λ f g. absurd (cons-nil x (filter t xs) g)
      | false ↦ λ f g.
          ⊎_elim
          (λ (y : name_eq m x ≡ true). subst (λ z. t z ≡ false) (sym (name_eq-true m x y)) f)
          (λ (y : list_any (name_eq m) xs ≡ true). none-left t m xs g y)
          (or_cases _ _ h)
    ] refl e
  where
    cons-nil : (y : MsgName) (ys : List MsgName) → y ∷ ys ≡ [] → ⊥
    cons-nil y ys q = absurd (cc)

first-none : {X : Type 0} (b : Bool) (x : X) (rest : Option X) → cond b (Some x) rest ≡ None → b ≡ false
first-none true x rest h = absurd (cc)
first-none false x rest h = refl

data-target : (s : Statement) (tasks a : ℕ) → is_data s ≡ true → option_any (λ t. not (nat_lt t tasks)) (target_of s) ≡ false → unwrap_or (target_of s) a < tasks
data-target (Put target to from len tgt org cmpl) tasks a d h = ltb-true _ _ (not-false _ h)
data-target (Get target from to len tgt org) tasks a d h = ltb-true _ _ (not-false _ h)
data-target (Putv target to from tgt org cmpl) tasks a d h = ltb-true _ _ (not-false _ h)
data-target (Getv target from to tgt org) tasks a d h = ltb-true _ _ (not-false _ h)
data-target (Rmw target op at in1 in2 prev org) tasks a d h = ltb-true _ _ (not-false _ h)
data-target (Am target handler header from len tgt org cmpl) tasks a d h = ltb-true _ _ (not-false _ h)
data-target _ tasks a d h = absurd (false≢true d)

-- a statement that names a completion counter has no data that come back
pub cmpl-no_back : (s : Statement) → is_some (cmpl_counter s) ≡ true → has_back s ≡ false
cmpl-no_back (Get target from to len tgt org) h = absurd (false≢true h)
cmpl-no_back (Getv target from to tgt org) h = absurd (false≢true h)
cmpl-no_back (Rmw target op at in1 in2 prev org) h = absurd (false≢true h)
cmpl-no_back _ h = refl

-- a statement that is entered is no data operation
pub join-no_data : (s : Statement) → has_join s ≡ true → is_data s ≡ false
join-no_data Gfence h = refl
join-no_data (Statement.Addr at) h = refl
join-no_data (Store at bytes) h = absurd (false≢true h)
join-no_data (Put target to from len tgt org cmpl) h = absurd (false≢true h)
join-no_data (Get target from to len tgt org) h = absurd (false≢true h)
join-no_data (Putv target to from tgt org cmpl) h = absurd (false≢true h)
join-no_data (Getv target from to tgt org) h = absurd (false≢true h)
join-no_data (Rmw target op at in1 in2 prev org) h = absurd (false≢true h)
join-no_data (Am target handler header from len tgt org cmpl) h = absurd (false≢true h)
join-no_data (Wait counter value) h = absurd (false≢true h)
join-no_data (Set counter value) h = absurd (false≢true h)
join-no_data (Read counter) h = absurd (false≢true h)
join-no_data Fence h = absurd (false≢true h)

module _ (script : Script) (rules : Rules) where
  -- A quiet record, but for acknowledgements that are owed: a packet that is handed over again makes its receiver owe one.
  pub record Calm (r : Run) : Type 0 where
    pub acked : (a b n : ℕ) → is_sent r a b n ≡ true → is_acked r a b n ≡ true
    pub resting : Resting script rules r

  pub calm : (r : Run) → Quiet script rules r → Calm r
  calm r q = record { acked = q.acked; resting = q.resting }

  -- Quiet: whatever was copied has landed.
  pub all-acked : (r : Run) → Calm r → (a b : ℕ) → a < script.tasks → b < script.tasks → (n : ℕ) → n < length (numbered script r.journal a b) → is_acked r a b n ≡ true
  unfolding to_send base
  all-acked r q a b la lb n l =
      true_from_ne_false _ (λ unacked.
      let set = has_ack (r.handed b a) in
      let size = length (numbered script r.journal a b) in
      let least = least_missing size set in
      let low : least < size = omega (arith, least_missing-least size set n unacked) in
      let missing = least_missing-not size set low in
      let unsent : is_sent r a b least ≡ false = false_from_ne_true _ (λ sent. both_ways _ missing (q.acked a b least sent)) in
      below-lacks size (λ k. not (is_sent r a b k) && nat_lt k (least + window_of script)) least (q.resting.no_entry a b la lb) low (and_from _ _ (not_from_false _ unsent) (lt-ltb least (least + window_of script) (let w = window-positive script in let q : least < least + window_of script = omega arith in q))))

  pub copied-landed : (r : Run) → SoundRun script rules r → Quiet script rules r → (m : MsgName) → sender script m < script.tasks → receiver script m < script.tasks → happened (Copied m) r.journal ≡ true → happened (Landed m) r.journal ≡ true
  copied-landed r s q m la lb c =
      s.arrived m c (λ n x. acked-delivered script rules r.journal r.wire r.handed s (sender script m) (receiver script m) n (all-acked r (calm r q) (sender script m) (receiver script m) la lb n (slice_get_within (numbered script r.journal (sender script m) (receiver script m)) n (m, x.0) x.1)))

  -- An issued operation's target is there.
  abbrev HasTarget : EventKey → Type 0
  HasTarget (Issued a i) = option_any (λ t. not (nat_lt t script.tasks)) (target_of (statement script a i)) ≡ false
  HasTarget _ = Unit {0}

  why-target : (J : List Event) (a i : ℕ) → refusal_of script rules J a i ≡ None → option_any (λ t. not (nat_lt t script.tasks)) (target_of (statement script a i)) ≡ false
  unfolding refusal_of refusal_by first_reason
  why-target J a i h = first-none _ _ _ h

  target-now : (e : Event) (J : List Event) → Keeps script rules J e → HasTarget (key_of e)
  target-now (Issue a i) J k = why-target J a i k.order.1
  target-now (Refuse a i y) J k = tt
  target-now (Enter a i) J k = tt
  target-now (Pass a i) J k = tt
  target-now (Copy m) J k = tt
  target-now (Head m) J k = tt
  target-now (Land m) J k = tt
  target-now (Begin m t w) J k = tt
  target-now (End m t w) J k = tt

  pub target-room : (J : List Event) (a i : ℕ) → Atomic script rules J → happened (Issued a i) J ≡ true → is_data (statement script a i) ≡ true → target script a i < script.tasks
  target-room J a i h s d = data-target (statement script a i) script.tasks a d (shown script rules HasTarget target-now (Issued a i) J h s)

  -- Jobs: where none waits all were begun, and where none runs all have ended.
  in_landed : (J : List Event) (t : ℕ) (m : MsgName) → is_job script rules t m ≡ true → happened (Landed m) J ≡ true → list_any (name_eq m) (landed_jobs script rules J t) ≡ true
  unfolding landed_jobs
  in_landed [] t m j h = absurd (both_ways _ (happened-nil (Landed m)) h)
  in_landed (Land n ∷ J) t m j h =
      ⊎_elim
      (λ (x : Landed m ≡ Landed n).
      let same : m ≡ n = cc in
      subst (λ xs. list_any (name_eq m) xs ≡ true) (sym (cond-true (is_job script rules t n) (landed_jobs script rules J t ++ n ∷ []) (landed_jobs script rules J t) (subst (λ z. is_job script rules t z ≡ true) same j)))
      (list_any-append (name_eq m) (landed_jobs script rules J t) (n ∷ []) ∙ or_right _ _ (or_left _ _ (subst (λ z. name_eq m z ≡ true) same (name_eq-refl m)))))
      (λ (x : happened (Landed m) J ≡ true).
      cond_both (is_job script rules t n) (landed_jobs script rules J t ++ n ∷ []) (landed_jobs script rules J t) (λ xs. list_any (name_eq m) xs ≡ true)
      (λ _. list_any-append (name_eq m) (landed_jobs script rules J t) (n ∷ []) ∙ or_left _ _ (in_landed J t m j x))
      (λ _. in_landed J t m j x))
      (happened-cases (Landed m) (Land n) J h)
  in_landed (Issue a i ∷ J) t m j h = in_landed J t m j (before script rules (Landed m) (Issue a i) J (λ y. cc) h)
  in_landed (Refuse a i z ∷ J) t m j h = in_landed J t m j (before script rules (Landed m) (Refuse a i z) J (λ y. cc) h)
  in_landed (Enter a i ∷ J) t m j h = in_landed J t m j (before script rules (Landed m) (Enter a i) J (λ y. cc) h)
  in_landed (Pass a i ∷ J) t m j h = in_landed J t m j (before script rules (Landed m) (Pass a i) J (λ y. cc) h)
  in_landed (Copy n ∷ J) t m j h = in_landed J t m j (before script rules (Landed m) (Copy n) J (λ y. cc) h)
  in_landed (Head n ∷ J) t m j h = in_landed J t m j (before script rules (Landed m) (Head n) J (λ y. cc) h)
  in_landed (Begin n a w ∷ J) t m j h = in_landed J t m j (before script rules (Landed m) (Begin n a w) J (λ y. cc) h)
  in_landed (End n a w ∷ J) t m j h = in_landed J t m j (before script rules (Landed m) (End n a w) J (λ y. cc) h)

  pub all-begun : (J : List Event) (t : ℕ) (m : MsgName) → queue script rules J t ≡ [] → is_job script rules t m ≡ true → happened (Landed m) J ≡ true → happened (Begun m) J ≡ true
  unfolding queue
  all-begun J t m e j h = not-false _ (none-left (λ n. not (happened (Begun n) J)) m (landed_jobs script rules J t) e (in_landed J t m j h))

  -- what was begun has ended or runs
  abbrev pub Goes : List Event → MsgName → Type 0
  Goes J m = (happened (Ended m) J ≡ true) ⊎ ((t : ℕ) × ((w : ℕ) × (runs J t w ≡ Some m)))

  pub goes : (J : List Event) (m : MsgName) → Atomic script rules J → happened (Begun m) J ≡ true → Goes J m
  unfolding runs
  goes [] m h s = absurd (both_ways _ (happened-nil (Begun m)) s)
  goes (Begin n a v ∷ J) m h s =
      let k = Atomic-head script rules (Begin n a v) J h in
      let free = not-true _ (and_parts _ _ k.jobs).1 in
      ⊎_elim
      (λ (x : Begun m ≡ Begun n). let same : n ≡ m = cc in inr (a, (v, cond-true (a == a && v == v) (Some n) (runs J a v) (and_from _ _ (eqb-refl a) (eqb-refl v)) ∙ ap Some same)))
      (λ (x : happened (Begun m) J ≡ true).
      ⊎_elim
      (λ (y : happened (Ended m) J ≡ true). inl (happened-later (Ended m) (Begin n a v) J y))
      (λ (y : (t : ℕ) × ((w : ℕ) × (runs J t w ≡ Some m))).
      inr (
        y.0,
        (
          y.1.0,
          elim (a == y.0 && v == y.1.0) as (λ b. (a == y.0 && v == y.1.0) ≡ b → cond b (Some n) (runs J y.0 y.1.0) ≡ Some m) [
            | true ↦ λ e.
                let ends = and_parts _ _ e in
                let there = subst (λ w. runs J a w ≡ Some m) (sym (eqb-true v y.1.0 ends.1)) (subst (λ t. runs J t y.1.0 ≡ Some m) (sym (eqb-true a y.0 ends.0)) y.1.1) in
                absurd (both_ways _ free (ap is_some there))
            | false ↦ λ e. y.1.1
          ] refl,
        ),
      ))
      (goes J m (Atomic-tail script rules (Begin n a v) J h) x))
      (happened-cases (Begun m) (Begin n a v) J s)
  goes (End n a v ∷ J) m h s =
      let k = Atomic-head script rules (End n a v) J h in
      ⊎_elim
      (λ (y : happened (Ended m) J ≡ true). inl (happened-later (Ended m) (End n a v) J y))
      (λ (y : (t : ℕ) × ((w : ℕ) × (runs J t w ≡ Some m))).
      elim (a == y.0 && v == y.1.0) as (λ b. (a == y.0 && v == y.1.0) ≡ b → Goes (End n a v ∷ J) m) [
        | true ↦ λ e.
            let ends = and_parts _ _ e in
            let there = subst (λ w. runs J a w ≡ Some m) (sym (eqb-true v y.1.0 ends.1)) (subst (λ t. runs J t y.1.0 ≡ Some m) (sym (eqb-true a y.0 ends.0)) y.1.1) in
            let same : n ≡ m = some-same n m (sym (is_run-some n (runs J a v) script rules k.jobs) ∙ there) in
            inl (subst (λ z. happened (Ended z) (End n a v ∷ J) ≡ true) same (happened-head (End n a v) J))
        | false ↦ λ e. inr (y.0, (y.1.0, cond-false (a == y.0 && v == y.1.0) None (runs J y.0 y.1.0) e ∙ y.1.1))
      ] refl)
      (goes J m (Atomic-tail script rules (End n a v) J h) (before script rules (Begun m) (End n a v) J (λ y. cc) s))
  goes (Issue a i ∷ J) m h s = ⊎_elim (λ (y : happened (Ended m) J ≡ true). inl (happened-later (Ended m) (Issue a i) J y)) (λ (y : (t : ℕ) × ((w : ℕ) × (runs J t w ≡ Some m))). inr y) (goes J m (Atomic-tail script rules (Issue a i) J h) (before script rules (Begun m) (Issue a i) J (λ y. cc) s))
  goes (Refuse a i z ∷ J) m h s = ⊎_elim (λ (y : happened (Ended m) J ≡ true). inl (happened-later (Ended m) (Refuse a i z) J y)) (λ (y : (t : ℕ) × ((w : ℕ) × (runs J t w ≡ Some m))). inr y) (goes J m (Atomic-tail script rules (Refuse a i z) J h) (before script rules (Begun m) (Refuse a i z) J (λ y. cc) s))
  goes (Enter a i ∷ J) m h s = ⊎_elim (λ (y : happened (Ended m) J ≡ true). inl (happened-later (Ended m) (Enter a i) J y)) (λ (y : (t : ℕ) × ((w : ℕ) × (runs J t w ≡ Some m))). inr y) (goes J m (Atomic-tail script rules (Enter a i) J h) (before script rules (Begun m) (Enter a i) J (λ y. cc) s))
  goes (Pass a i ∷ J) m h s = ⊎_elim (λ (y : happened (Ended m) J ≡ true). inl (happened-later (Ended m) (Pass a i) J y)) (λ (y : (t : ℕ) × ((w : ℕ) × (runs J t w ≡ Some m))). inr y) (goes J m (Atomic-tail script rules (Pass a i) J h) (before script rules (Begun m) (Pass a i) J (λ y. cc) s))
  goes (Copy n ∷ J) m h s = ⊎_elim (λ (y : happened (Ended m) J ≡ true). inl (happened-later (Ended m) (Copy n) J y)) (λ (y : (t : ℕ) × ((w : ℕ) × (runs J t w ≡ Some m))). inr y) (goes J m (Atomic-tail script rules (Copy n) J h) (before script rules (Begun m) (Copy n) J (λ y. cc) s))
  goes (Head n ∷ J) m h s = ⊎_elim (λ (y : happened (Ended m) J ≡ true). inl (happened-later (Ended m) (Head n) J y)) (λ (y : (t : ℕ) × ((w : ℕ) × (runs J t w ≡ Some m))). inr y) (goes J m (Atomic-tail script rules (Head n) J h) (before script rules (Begun m) (Head n) J (λ y. cc) s))
  goes (Land n ∷ J) m h s = ⊎_elim (λ (y : happened (Ended m) J ≡ true). inl (happened-later (Ended m) (Land n) J y)) (λ (y : (t : ℕ) × ((w : ℕ) × (runs J t w ≡ Some m))). inr y) (goes J m (Atomic-tail script rules (Land n) J h) (before script rules (Begun m) (Land n) J (λ y. cc) s))
