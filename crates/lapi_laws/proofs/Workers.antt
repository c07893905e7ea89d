-- What runs at a worker was begun there and has not ended; what waits in a queue has landed and was not begun.
use Rattle.std.proofs.Common.{◌≡◌, ℕ, ◌==◌, true, false, cond, ◌&&◌, not, List, [], ◌∷◌, ◌++◌, Option, Some, None, refl, sym, ap, ◌∙◌, subst, ⊎_elim}
use Rattle.std.proofs.lemmas.Bool.{true≢false, false≢true, and_parts, and_from, both_ways, cond_both, eqb-true, eq-eqb, false_from_ne_true}
use Rattle.lapi_base.specs.declared.script.Script.{Script}
use Rattle.lapi_base.specs.declared.rule.Rules.{Rules}
use Rattle.lapi_base.specs.declared.message.MsgName.{MsgName}
use Rattle.lapi_base.specs.declared.event.Event.{Event}
use Rattle.lapi_base.specs.declared.event.Event.TheVariants.{Issue, Refuse, Enter, Pass, Copy, Head, Land, Begin, End}
use Rattle.lapi_base.specs.declared.message.Leg.TheVariants.{Go}
use Rattle.lapi_base.specs.Record.Names.{leg_eq, Landed, Begun, Ended, key_of, happened}
use Rattle.std.specs.List.{AllByRecursion}
use Rattle.lapi_base.specs.Record.Jobs.{is_job, landed_jobs, queue, runs}
use Rattle.lapi_base.specs.Record.Operations.{receiver}
use Rattle.lapi_base.specs.Record.Handlers.{has_completion}
use Rattle.lapi_base.specs.Record.Atomic.{Atomic, has_job, is_first, is_run}
use Rattle.lapi_base.proofs.ListLaws.{all-append, all-filter, all-weaker}
use Rattle.lapi_base.proofs.NameLaws.{happened-cases, happened-head, happened-later, happened-nil, name_eq-true}
use Rattle.lapi_laws.proofs.Backward.{Atomic-head, Atomic-tail}

pub is_run-some : (m : MsgName) (o : Option MsgName) (script : Script) (rules : Rules) → is_run script rules m o ≡ true → o ≡ Some m
is_run-some m None script rules h = absurd (false≢true h)
is_run-some m (Some n) script rules h = ap Some (sym (name_eq-true m n h))

module _ (script : Script) (rules : Rules) where
  -- Jobs.
  abbrev pub Waiting : List Event → ℕ → MsgName → Type 0
  Waiting J t m = (is_job script rules t m ≡ true) × (happened (Landed m) J ≡ true)

  waiting-later : (e : Event) (J : List Event) (t : ℕ) (m : MsgName) → Waiting J t m → Waiting (e ∷ J) t m
  waiting-later e J t m h = (h.0, happened-later (Landed m) e J h.1)

  older : (e : Event) (J : List Event) (t : ℕ) (ms : List MsgName) → AllByRecursion (Waiting J t) ms → AllByRecursion (Waiting (e ∷ J) t) ms
  older e J t ms h = all-weaker (Waiting J t) (Waiting (e ∷ J) t) (waiting-later e J t) ms h

  pub landed-waiting : (J : List Event) (t : ℕ) → AllByRecursion (Waiting J t) (landed_jobs script rules J t)
  unfolding landed_jobs
  landed-waiting [] t = tt
  landed-waiting (Land m ∷ J) t =
      let old = older (Land m) J t (landed_jobs script rules J t) (landed-waiting J t) in
      cond_both (is_job script rules t m) (landed_jobs script rules J t ++ m ∷ []) (landed_jobs script rules J t) (AllByRecursion (Waiting (Land m ∷ J) t))
      (λ e. all-append (Waiting (Land m ∷ J) t) (landed_jobs script rules J t) (m ∷ []) old ((e, happened-head (Land m) J), tt))
      (λ _. old)
  landed-waiting (Issue a i ∷ J) t = older (Issue a i) J t (landed_jobs script rules J t) (landed-waiting J t)
  landed-waiting (Refuse a i y ∷ J) t = older (Refuse a i y) J t (landed_jobs script rules J t) (landed-waiting J t)
  landed-waiting (Enter a i ∷ J) t = older (Enter a i) J t (landed_jobs script rules J t) (landed-waiting J t)
  landed-waiting (Pass a i ∷ J) t = older (Pass a i) J t (landed_jobs script rules J t) (landed-waiting J t)
  landed-waiting (Copy m ∷ J) t = older (Copy m) J t (landed_jobs script rules J t) (landed-waiting J t)
  landed-waiting (Head m ∷ J) t = older (Head m) J t (landed_jobs script rules J t) (landed-waiting J t)
  landed-waiting (Begin m a w ∷ J) t = older (Begin m a w) J t (landed_jobs script rules J t) (landed-waiting J t)
  landed-waiting (End m a w ∷ J) t = older (End m a w) J t (landed_jobs script rules J t) (landed-waiting J t)

  pub queue-waiting : (J : List Event) (t : ℕ) → AllByRecursion (λ m. Waiting J t m × (not (happened (Begun m) J) ≡ true)) (queue script rules J t)
  unfolding queue
  queue-waiting J t = all-filter (Waiting J t) (λ m. not (happened (Begun m) J)) (landed_jobs script rules J t) (landed-waiting J t)

  -- the first of a queue has a completion
  first-completes : (J : List Event) (t : ℕ) (m : MsgName) → is_first script rules m (queue script rules J t) ≡ true → has_completion script rules m.origin m.statement ≡ true
  unfolding is_job
  first-completes J t m h =
      elim (queue script rules J t) as (λ ms. AllByRecursion (λ n. Waiting J t n × (not (happened (Begun n) J) ≡ true)) ms → is_first script rules m ms ≡ true → has_completion script rules m.origin m.statement ≡ true) [
        | [] ↦ λ w x. absurd (false≢true x)
        | n ∷ ns ↦ λ w x.
            let job = and_parts (leg_eq n.leg Go) (has_completion script rules n.origin n.statement && receiver script n == t) w.0.0.0 in
            subst (λ (y : MsgName). has_completion script rules y.origin y.statement ≡ true) (sym (name_eq-true m n x)) (and_parts _ _ job.1).0
      ] (queue-waiting J t) h

  pub begun : (J : List Event) (t w : ℕ) (m : MsgName) → Atomic script rules J → runs J t w ≡ Some m → (happened (Begun m) J ≡ true) × (has_job script rules m t w ≡ true) × (has_completion script rules m.origin m.statement ≡ true)
  unfolding runs
  begun [] t w m h r = absurd (cc)
  begun (Begin n a v ∷ J) t w m h r =
      elim (a == t && v == w) as (λ b. (a == t && v == w) ≡ b → cond b (Some n) (runs J t w) ≡ Some m → (happened (Begun m) (Begin n a v ∷ J) ≡ true) × (has_job script rules m t w ≡ true) × (has_completion script rules m.origin m.statement ≡ true)) [
        | true ↦ λ e r'.
            let ends = and_parts _ _ e in
            let same : n ≡ m = cc in
            let k = Atomic-head script rules (Begin n a v) J h in (
              subst (λ y. happened (Begun y) (Begin n a v ∷ J) ≡ true) same (happened-head (Begin n a v) J),
              subst (λ x. has_job script rules m t x ≡ true) (eqb-true v w ends.1)
                  (subst (λ x. has_job script rules m x v ≡ true) (eqb-true a t ends.0)
                  (subst (λ y. has_job script rules y a v ≡ true) same k.there)),
              subst (λ y. has_completion script rules y.origin y.statement ≡ true) same (first-completes J a n (and_parts _ _ k.jobs).0),
            )
        | false ↦ λ e r'. let i = begun J t w m (Atomic-tail script rules (Begin n a v) J h) r' in (happened-later (Begun m) (Begin n a v) J i.0, i.1, i.2)
      ] refl r
  begun (End n a v ∷ J) t w m h r =
      elim (a == t && v == w) as (λ b. cond b None (runs J t w) ≡ Some m → (happened (Begun m) (End n a v ∷ J) ≡ true) × (has_job script rules m t w ≡ true) × (has_completion script rules m.origin m.statement ≡ true)) [
        | true ↦ λ r'. absurd (cc)
        | false ↦ λ r'. let i = begun J t w m (Atomic-tail script rules (End n a v) J h) r' in (happened-later (Begun m) (End n a v) J i.0, i.1, i.2)
      ] r
  begun (Issue a i ∷ J) t w m h r = let i' = begun J t w m (Atomic-tail script rules (Issue a i) J h) r in (happened-later (Begun m) (Issue a i) J i'.0, i'.1, i'.2)
  begun (Refuse a i y ∷ J) t w m h r = let i' = begun J t w m (Atomic-tail script rules (Refuse a i y) J h) r in (happened-later (Begun m) (Refuse a i y) J i'.0, i'.1, i'.2)
  begun (Enter a i ∷ J) t w m h r = let i' = begun J t w m (Atomic-tail script rules (Enter a i) J h) r in (happened-later (Begun m) (Enter a i) J i'.0, i'.1, i'.2)
  begun (Pass a i ∷ J) t w m h r = let i' = begun J t w m (Atomic-tail script rules (Pass a i) J h) r in (happened-later (Begun m) (Pass a i) J i'.0, i'.1, i'.2)
  begun (Copy n ∷ J) t w m h r = let i' = begun J t w m (Atomic-tail script rules (Copy n) J h) r in (happened-later (Begun m) (Copy n) J i'.0, i'.1, i'.2)
  begun (Head n ∷ J) t w m h r = let i' = begun J t w m (Atomic-tail script rules (Head n) J h) r in (happened-later (Begun m) (Head n) J i'.0, i'.1, i'.2)
  begun (Land n ∷ J) t w m h r = let i' = begun J t w m (Atomic-tail script rules (Land n) J h) r in (happened-later (Begun m) (Land n) J i'.0, i'.1, i'.2)

  -- a message runs at one worker alone
  one_place : (J : List Event) (t w a v : ℕ) (m : MsgName) → Atomic script rules J → runs J t w ≡ Some m → runs J a v ≡ Some m → (a ≡ t) × (v ≡ w)
  unfolding runs
  one_place [] t w a v m h r s = absurd (cc)
  one_place (Begin n b u ∷ J) t w a v m h r s =
      let k = Atomic-head script rules (Begin n b u) J h in
      let tail = Atomic-tail script rules (Begin n b u) J h in
      elim (b == t && u == w) as (λ x. (b == t && u == w) ≡ x → cond x (Some n) (runs J t w) ≡ Some m → (a ≡ t) × (v ≡ w)) [
        | true ↦ λ e r'.
            let same : n ≡ m = cc in
            elim (b == a && u == v) as (λ y. (b == a && u == v) ≡ y → cond y (Some n) (runs J a v) ≡ Some m → (a ≡ t) × (v ≡ w)) [
              | true ↦ λ f s'. let p = and_parts _ _ e in let q = and_parts _ _ f in (sym (eqb-true b a q.0) ∙ eqb-true b t p.0, sym (eqb-true u v q.1) ∙ eqb-true u w p.1)
              | false ↦ λ f s'. absurd (both_ways _ k.once (subst (λ y. happened (Begun y) J ≡ true) (sym same) (begun J a v m tail s').0))
            ] refl s
        | false ↦ λ e r'.
            elim (b == a && u == v) as (λ y. cond y (Some n) (runs J a v) ≡ Some m → (a ≡ t) × (v ≡ w)) [
              | true ↦ λ s'. let same : n ≡ m = cc in absurd (both_ways _ k.once (subst (λ y. happened (Begun y) J ≡ true) (sym same) (begun J t w m tail r').0))
              | false ↦ λ s'. one_place J t w a v m tail r' s'
            ] s
      ] refl r
  one_place (End n b u ∷ J) t w a v m h r s =
      let tail = Atomic-tail script rules (End n b u) J h in
      elim (b == t && u == w) as (λ x. cond x None (runs J t w) ≡ Some m → (a ≡ t) × (v ≡ w)) [
        | true ↦ λ r'. absurd (cc)
        | false ↦ λ r'.
            elim (b == a && u == v) as (λ y. cond y None (runs J a v) ≡ Some m → (a ≡ t) × (v ≡ w)) [
              | true ↦ λ s'. absurd (cc)
              | false ↦ λ s'. one_place J t w a v m tail r' s'
            ] s
      ] r
  one_place (Issue b i ∷ J) t w a v m h r s = one_place J t w a v m (Atomic-tail script rules (Issue b i) J h) r s
  one_place (Refuse b i y ∷ J) t w a v m h r s = one_place J t w a v m (Atomic-tail script rules (Refuse b i y) J h) r s
  one_place (Enter b i ∷ J) t w a v m h r s = one_place J t w a v m (Atomic-tail script rules (Enter b i) J h) r s
  one_place (Pass b i ∷ J) t w a v m h r s = one_place J t w a v m (Atomic-tail script rules (Pass b i) J h) r s
  one_place (Copy n ∷ J) t w a v m h r s = one_place J t w a v m (Atomic-tail script rules (Copy n) J h) r s
  one_place (Head n ∷ J) t w a v m h r s = one_place J t w a v m (Atomic-tail script rules (Head n) J h) r s
  one_place (Land n ∷ J) t w a v m h r s = one_place J t w a v m (Atomic-tail script rules (Land n) J h) r s

  -- what ends was begun
  pub begun-of : (e : Event) (J : List Event) (m : MsgName) → Atomic script rules (e ∷ J) → Ended m ≡ key_of e → happened (Begun m) J ≡ true
  begun-of (End n t w) J m h same =
      let there = is_run-some n (runs J t w) script rules (Atomic-head script rules (End n t w) J h).jobs in
      let same' : n ≡ m = cc in
      subst (λ y. happened (Begun y) J ≡ true) same' (begun J t w n (Atomic-tail script rules (End n t w) J h) there).0
  begun-of (Issue a i) J m h same = absurd (cc)
  begun-of (Refuse a i y) J m h same = absurd (cc)
  begun-of (Enter a i) J m h same = absurd (cc)
  begun-of (Pass a i) J m h same = absurd (cc)
  begun-of (Copy n) J m h same = absurd (cc)
  begun-of (Head n) J m h same = absurd (cc)
  begun-of (Land n) J m h same = absurd (cc)
  begun-of (Begin n t w) J m h same = absurd (cc)

  ended-begun : (J : List Event) (m : MsgName) → Atomic script rules J → happened (Ended m) J ≡ true → happened (Begun m) J ≡ true
  ended-begun [] m h s = absurd (both_ways _ (happened-nil (Ended m)) s)
  ended-begun (e ∷ J) m h s =
      happened-later (Begun m) e J
      (⊎_elim
      (λ (x : Ended m ≡ key_of e). begun-of e J m h x)
      (λ (x : happened (Ended m) J ≡ true). ended-begun J m (Atomic-tail script rules e J h) x)
      (happened-cases (Ended m) e J s))

  -- what runs has not ended
  pub unended : (J : List Event) (t w : ℕ) (m : MsgName) → Atomic script rules J → runs J t w ≡ Some m → happened (Ended m) J ≡ false
  unfolding runs happened
  unended [] t w m h r = absurd (cc)
  unended (Begin n a v ∷ J) t w m h r =
      let k = Atomic-head script rules (Begin n a v) J h in
      let tail = Atomic-tail script rules (Begin n a v) J h in
      elim (a == t && v == w) as (λ b. cond b (Some n) (runs J t w) ≡ Some m → happened (Ended m) J ≡ false) [
        | true ↦ λ r'.
            let same : n ≡ m = cc in
            false_from_ne_true _ (λ yes. both_ways _ k.once (subst (λ y. happened (Begun y) J ≡ true) (sym same) (ended-begun J m tail yes)))
        | false ↦ λ r'. unended J t w m tail r'
      ] r
  unended (End n a v ∷ J) t w m h r =
      let k = Atomic-head script rules (End n a v) J h in
      let tail = Atomic-tail script rules (End n a v) J h in
      elim (a == t && v == w) as (λ b. (a == t && v == w) ≡ b → cond b None (runs J t w) ≡ Some m → happened (Ended m) (End n a v ∷ J) ≡ false) [
        | true ↦ λ e r'. absurd (cc)
        | false ↦ λ e r'.
            false_from_ne_true _ (λ yes.
            ⊎_elim
            (λ (x : Ended m ≡ Ended n).
            let same : m ≡ n = cc in
            let there = is_run-some n (runs J a v) script rules k.jobs in
            let place = one_place J t w a v m tail r' (there ∙ ap Some (sym same)) in
            true≢false (sym (and_from (a == t) (v == w) (eq-eqb a t place.0) (eq-eqb v w place.1)) ∙ e))
            (λ (x : happened (Ended m) J ≡ true). both_ways _ (unended J t w m tail r') x)
            (happened-cases (Ended m) (End n a v) J yes))
      ] refl r
  unended (Issue a i ∷ J) t w m h r = unended J t w m (Atomic-tail script rules (Issue a i) J h) r
  unended (Refuse a i y ∷ J) t w m h r = unended J t w m (Atomic-tail script rules (Refuse a i y) J h) r
  unended (Enter a i ∷ J) t w m h r = unended J t w m (Atomic-tail script rules (Enter a i) J h) r
  unended (Pass a i ∷ J) t w m h r = unended J t w m (Atomic-tail script rules (Pass a i) J h) r
  unended (Copy n ∷ J) t w m h r = unended J t w m (Atomic-tail script rules (Copy n) J h) r
  unended (Head n ∷ J) t w m h r = unended J t w m (Atomic-tail script rules (Head n) J h) r
  unended (Land n ∷ J) t w m h r = unended J t w m (Atomic-tail script rules (Land n) J h) r
