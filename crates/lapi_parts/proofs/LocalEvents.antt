-- What a task asks of a journal, it can ask of its own events.
use Rattle.std.proofs.Common.{◌≡◌, ℕ, suc, ◌+◌, ◌-◌, add-zero, ◌==◌, Bool, true, false, cond, ◌&&◌, ◌||◌, List, [], ◌∷◌, ◌++◌, Option, Some, None, refl, sym, ap, ◌∙◌, subst}
use Rattle.std.proofs.lemmas.List.{append-nil}
use Rattle.std.proofs.lemmas.Bool.{both_ways, eqb-true, cond_both, cond-true, cond-false}
use Rattle.lapi_base.specs.declared.script.Script.{Script}
use Rattle.lapi_base.specs.declared.statement.Statement.{Statement}
use Rattle.lapi_base.specs.declared.statement.Statement.TheVariants.{Wait, Set, Read}
use Rattle.lapi_base.specs.declared.rule.Rules.{Rules}
use Rattle.lapi_base.specs.declared.message.Leg.{Leg}
use Rattle.lapi_base.specs.declared.message.Leg.TheVariants.{Go, Back, Note, Echo, Join}
use Rattle.lapi_base.specs.declared.message.MsgName.{MsgName}
use Rattle.lapi_base.specs.declared.event.Event.{Event}
use Rattle.lapi_base.specs.declared.event.Event.TheVariants.{Issue, Refuse, Enter, Pass, Copy, Head, Land, Begin, End}
use Rattle.lapi_base.specs.Record.Names.{leg_eq, EventKey, Issued, Refused, Entered, Passed, Copied, Headed, Landed, Begun, Ended, key_of, key_eq, happened, message}
use Rattle.lapi_base.specs.Record.Operations.{statement, sender, receiver, fragments}
use Rattle.lapi_base.specs.Record.Handlers.{has_completion}
use Rattle.lapi_base.specs.Record.Counters.{is_counter, tells, count, issued_count, passed_count, read_by, reads}
use Rattle.lapi_base.specs.Record.Refusals.{next, refusals}
use Rattle.lapi_base.specs.Record.Jobs.{is_job, landed_jobs, runs}
use Rattle.lapi_base.specs.Record.Wires.{numbered}
use Rattle.lapi_base.specs.Record.TaskPart.{is_at, events_at}
use Rattle.lapi_base.proofs.NameLaws.{deed_eq-true, happened-cons}
use Rattle.lapi_base.proofs.TestLaws.{eqb-refl}
use Rattle.lapi_base.specs.declared.refusal.Refusal.{Refusal}

-- an event that stands at the task, or one that doesn't
pub events-here : (script : Script) (t : ℕ) (e : Event) (J : List Event) → is_at script t e ≡ true → events_at script t (e ∷ J) ≡ e ∷ events_at script t J
unfolding events_at
events-here script t e J h = cond-true (is_at script t e) (e ∷ events_at script t J) (events_at script t J) h

pub events-there : (script : Script) (t : ℕ) (e : Event) (J : List Event) → is_at script t e ≡ false → events_at script t (e ∷ J) ≡ events_at script t J
unfolding events_at
events-there script t e J h = cond-false (is_at script t e) (e ∷ events_at script t J) (events_at script t J) h

-- A question that each event answers by a step: where the steps of other tasks' events change nothing, the task's own events answer it.
pub folds : {A : Type 0} (script : Script) (t : ℕ) (f : List Event → A) (step : Event → A → A) → ((e : Event) (J : List Event) → f (e ∷ J) ≡ step e (f J)) → ((e : Event) (x : A) → is_at script t e ≡ false → step e x ≡ x) → (J : List Event) → f (events_at script t J) ≡ f J
unfolding events_at
folds script t f step steps others [] = refl
folds script t f step steps others (e ∷ J) =
    let go = folds script t f step steps others J in
    elim (is_at script t e) as (λ b. is_at script t e ≡ b → f (cond b (e ∷ events_at script t J) (events_at script t J)) ≡ f (e ∷ J)) [
      | true ↦ λ h. steps e (events_at script t J) ∙ ap (step e) go ∙ sym (steps e J)
      | false ↦ λ h. go ∙ sym (others e (f J) h) ∙ sym (steps e J)
    ] refl

pub same-sym : (a b : ℕ) → (a == b) ≡ false → (b == a) ≡ false
same-sym a b h = elim (b == a) as (λ x. (b == a) ≡ x → x ≡ false) [
  | true ↦ λ e. absurd (both_ways (a == b) h (subst (λ y. (a == y) ≡ true) (sym (eqb-true b a e)) (eqb-refl a)))
  | false ↦ λ _. refl
] refl

and-no : (x y : Bool) → x ≡ false → (x && y) ≡ false
and-no x y h = ap (λ b. b && y) h

and-no-right : (x y : Bool) → y ≡ false → (x && y) ≡ false
and-no-right true y h = h
and-no-right false y h = refl

module _ (script : Script) (t : ℕ) where
  -- The next statement.
  next-step : Event → ℕ → ℕ
  next-step (Issue b i) n = cond (t == b) (suc n) n
  next-step (Refuse b i why) n = cond (t == b) (suc n) n
  next-step (Pass b i) n = cond (t == b) (suc n) n
  next-step _ n = n

  next-steps : (e : Event) (J : List Event) → next (e ∷ J) t ≡ next-step e (next J t)
  unfolding next next-step
  next-steps (Issue b i) J = refl
  next-steps (Refuse b i why) J = refl
  next-steps (Enter b i) J = refl
  next-steps (Pass b i) J = refl
  next-steps (Copy m) J = refl
  next-steps (Head m) J = refl
  next-steps (Land m) J = refl
  next-steps (Begin m b w) J = refl
  next-steps (End m b w) J = refl

  next-others : (e : Event) (n : ℕ) → is_at script t e ≡ false → next-step e n ≡ n
  unfolding next-step
  next-others (Issue b i) n h = cond-false (t == b) (suc n) n (same-sym b t h)
  next-others (Refuse b i why) n h = cond-false (t == b) (suc n) n (same-sym b t h)
  next-others (Enter b i) n h = refl
  next-others (Pass b i) n h = cond-false (t == b) (suc n) n (same-sym b t h)
  next-others (Copy m) n h = refl
  next-others (Head m) n h = refl
  next-others (Land m) n h = refl
  next-others (Begin m b w) n h = refl
  next-others (End m b w) n h = refl

  pub next-local : (J : List Event) → next (events_at script t J) t ≡ next J t
  next-local J = folds script t (λ K. next K t) next-step next-steps next-others J

  -- The numbers of its links.
  numbered-step : ℕ → Event → List (MsgName × ℕ) → List (MsgName × ℕ)
  numbered-step b (Copy m) xs = cond (sender script m == t && receiver script m == b) (xs ++ fragments script m) xs
  numbered-step b _ xs = xs

  numbered-steps : (b : ℕ) (e : Event) (J : List Event) → numbered script (e ∷ J) t b ≡ numbered-step b e (numbered script J t b)
  unfolding numbered numbered-step
  numbered-steps b (Issue a i) J = refl
  numbered-steps b (Refuse a i why) J = refl
  numbered-steps b (Enter a i) J = refl
  numbered-steps b (Pass a i) J = refl
  numbered-steps b (Copy m) J = refl
  numbered-steps b (Head m) J = refl
  numbered-steps b (Land m) J = refl
  numbered-steps b (Begin m a w) J = refl
  numbered-steps b (End m a w) J = refl

  numbered-others : (b : ℕ) (e : Event) (xs : List (MsgName × ℕ)) → is_at script t e ≡ false → numbered-step b e xs ≡ xs
  unfolding numbered-step
  numbered-others b (Copy m) xs h = cond-false _ (xs ++ fragments script m) xs (and-no (sender script m == t) (receiver script m == b) h)
  numbered-others b (Issue a i) xs h = refl
  numbered-others b (Refuse a i why) xs h = refl
  numbered-others b (Enter a i) xs h = refl
  numbered-others b (Pass a i) xs h = refl
  numbered-others b (Head m) xs h = refl
  numbered-others b (Land m) xs h = refl
  numbered-others b (Begin m a w) xs h = refl
  numbered-others b (End m a w) xs h = refl

  pub numbered-local : (J : List Event) (b : ℕ) → numbered script (events_at script t J) t b ≡ numbered script J t b
  numbered-local J b = folds script t (λ K. numbered script K t b) (numbered-step b) (numbered-steps b) (numbered-others b) J

  -- What was happened at the task.
  abbrev pub LiesAt : EventKey → Type 0
  LiesAt (Issued a i) = a ≡ t
  LiesAt (Refused a i) = a ≡ t
  LiesAt (Entered a i) = a ≡ t
  LiesAt (Passed a i) = a ≡ t
  LiesAt (Copied m) = sender script m ≡ t
  LiesAt (Headed m) = receiver script m ≡ t
  LiesAt (Landed m) = receiver script m ≡ t
  LiesAt (Begun m) = ⊥
  LiesAt (Ended m) = ⊥

  lies-there : (e : Event) → LiesAt (key_of e) → is_at script t e ≡ true
  lies-there (Issue a i) h = subst (λ x. (a == x) ≡ true) h (eqb-refl a)
  lies-there (Refuse a i why) h = subst (λ x. (a == x) ≡ true) h (eqb-refl a)
  lies-there (Enter a i) h = subst (λ x. (a == x) ≡ true) h (eqb-refl a)
  lies-there (Pass a i) h = subst (λ x. (a == x) ≡ true) h (eqb-refl a)
  lies-there (Copy m) h = subst (λ x. (sender script m == x) ≡ true) h (eqb-refl (sender script m))
  lies-there (Head m) h = subst (λ x. (receiver script m == x) ≡ true) h (eqb-refl (receiver script m))
  lies-there (Land m) h = subst (λ x. (receiver script m == x) ≡ true) h (eqb-refl (receiver script m))
  lies-there (Begin m a w) h = absurd h
  lies-there (End m a w) h = absurd h

  other-deed : (d : EventKey) (e : Event) → LiesAt d → is_at script t e ≡ false → key_eq d (key_of e) ≡ false
  other-deed d e l h = elim (key_eq d (key_of e)) as (λ x. key_eq d (key_of e) ≡ x → x ≡ false) [
    | true ↦ λ same. absurd (both_ways _ h (lies-there e (subst LiesAt (deed_eq-true d (key_of e) same) l)))
    | false ↦ λ _. refl
  ] refl

  pub happened-local : (d : EventKey) → LiesAt d → (J : List Event) → happened d (events_at script t J) ≡ happened d J
  happened-local d l J = folds script t (happened d) (λ e x. key_eq d (key_of e) || x) (happened-cons d) (λ e x h. ap (λ b. b || x) (other-deed d e l h)) J

  -- Its counters.
  module _ (rules : Rules) where
    count-step : ℕ → Event → ℕ → ℕ
    count-step c (Issue a i) n = issued_count script rules (statement script a i) a t c n
    count-step c (Pass a i) n = passed_count script rules (statement script a i) a t c n
    count-step c e n = n + cond (tells script rules e t c) 1 0

    no-counter : (o : Option ℕ) (a c : ℕ) → (a == t) ≡ false → is_counter o a t c ≡ false
    no-counter None a c h = refl
    no-counter (Some d) a c h = and-no (a == t) (d == c) h

    copy-quiet : (a i c : ℕ) (leg : Leg) → (sender script (message a i leg) == t) ≡ false → tells script rules (Copy (message a i leg)) t c ≡ false
    unfolding tells
    copy-quiet a i c Go h = and-no-right _ _ (no-counter _ a c h)
    copy-quiet a i c Back h = no-counter _ _ c h
    copy-quiet a i c Note h = refl
    copy-quiet a i c Echo h = refl
    copy-quiet a i c (Join d) h = refl

    land-quiet : (a i c : ℕ) (leg : Leg) → (receiver script (message a i leg) == t) ≡ false → tells script rules (Land (message a i leg)) t c ≡ false
    unfolding tells
    land-quiet a i c Go h = and-no-right _ _ (no-counter _ _ c h)
    land-quiet a i c Back h = no-counter _ a c h
    land-quiet a i c Note h = no-counter _ a c h
    land-quiet a i c Echo h = no-counter _ a c h
    land-quiet a i c (Join d) h = refl

    issued-no : (s : Statement) (a c n : ℕ) → (a == t) ≡ false → issued_count script rules s a t c n ≡ n
    issued-no (Set counter value) a c n h = cond-false _ value n (and-no (a == t) (counter == c) h)
    issued-no _ a c n h = refl

    passed-no : (s : Statement) (a c n : ℕ) → (a == t) ≡ false → passed_count script rules s a t c n ≡ n
    passed-no (Wait counter value) a c n h = cond-false _ (n - value) n (and-no (a == t) (counter == c) h)
    passed-no _ a c n h = refl

    quiet-count : (e : Event) (c n : ℕ) → tells script rules e t c ≡ false → n + cond (tells script rules e t c) 1 0 ≡ n
    quiet-count e c n h = ap (λ b. n + cond b 1 0) h ∙ add-zero n

    count-steps : (c : ℕ) (e : Event) (J : List Event) → count script rules (e ∷ J) t c ≡ count-step c e (count script rules J t c)
    unfolding count count-step
    count-steps c (Issue a i) J = refl
    count-steps c (Pass a i) J = refl
    count-steps c (Refuse a i why) J = refl
    count-steps c (Enter a i) J = refl
    count-steps c (Copy m) J = refl
    count-steps c (Head m) J = refl
    count-steps c (Land m) J = refl
    count-steps c (Begin m a w) J = refl
    count-steps c (End m a w) J = refl

    count-others : (c : ℕ) (e : Event) (n : ℕ) → is_at script t e ≡ false → count-step c e n ≡ n
    unfolding count-step tells
    count-others c (Issue a i) n h = issued-no (statement script a i) a c n h
    count-others c (Pass a i) n h = passed-no (statement script a i) a c n h
    count-others c (Copy m) n h = quiet-count (Copy m) c n (copy-quiet m.origin m.statement c m.leg h)
    count-others c (Land m) n h = quiet-count (Land m) c n (land-quiet m.origin m.statement c m.leg h)
    count-others c (End m a w) n h = quiet-count (End m a w) c n (no-counter _ a c h)
    count-others c (Refuse a i why) n h = add-zero n
    count-others c (Enter a i) n h = add-zero n
    count-others c (Head m) n h = add-zero n
    count-others c (Begin m a w) n h = add-zero n

    pub count-local : (J : List Event) (c : ℕ) → count script rules (events_at script t J) t c ≡ count script rules J t c
    count-local J c = folds script t (λ K. count script rules K t c) (count-step c) (count-steps c) (count-others c) J

    -- What its reads answered.
    read-now : (J : List Event) (i : ℕ) (s : Statement) → read_by script rules (events_at script t J) t i s ≡ read_by script rules J t i s
    read-now J i (Read counter) = ap (λ n. (i, n) ∷ []) (count-local J counter)
    read-now J i _ = refl

    pub reads-local : (J : List Event) → reads script rules (events_at script t J) t ≡ reads script rules J t
    unfolding events_at reads
    reads-local [] = refl
    reads-local (Issue a i ∷ J) =
        let E = events_at script t J in
        let s = statement script a i in
        elim (a == t) as (λ b. (a == t) ≡ b → reads script rules (cond b (Issue a i ∷ E) E) t ≡ reads script rules J t ++ cond b (read_by script rules J a i s) []) [
          | true ↦ λ h.
              ap (λ xs. xs ++ cond (a == t) (read_by script rules E a i s) []) (reads-local J)
              ∙ ap (λ c. reads script rules J t ++ cond c (read_by script rules E a i s) []) h
              ∙ ap (λ xs. reads script rules J t ++ xs) (subst (λ x. read_by script rules E x i s ≡ read_by script rules J x i s) (sym (eqb-true a t h)) (read-now J i s))
          | false ↦ λ h. reads-local J ∙ sym (append-nil (reads script rules J t))
        ] refl
    reads-local (e ∷ J) = cond_both (is_at script t e) (e ∷ events_at script t J) (events_at script t J) (λ K. reads script rules K t ≡ reads script rules J t) (λ _. reads-local J) (λ _. reads-local J)

    -- Its jobs.
    jobs-step : Event → List MsgName → List MsgName
    jobs-step (Land m) xs = cond (is_job script rules t m) (xs ++ m ∷ []) xs
    jobs-step _ xs = xs

    jobs-steps : (e : Event) (J : List Event) → landed_jobs script rules (e ∷ J) t ≡ jobs-step e (landed_jobs script rules J t)
    unfolding landed_jobs jobs-step
    jobs-steps (Land m) J = refl
    jobs-steps (Issue a i) J = refl
    jobs-steps (Pass a i) J = refl
    jobs-steps (Refuse a i why) J = refl
    jobs-steps (Enter a i) J = refl
    jobs-steps (Copy m) J = refl
    jobs-steps (Head m) J = refl
    jobs-steps (Begin m a w) J = refl
    jobs-steps (End m a w) J = refl

    jobs-others : (e : Event) (xs : List MsgName) → is_at script t e ≡ false → jobs-step e xs ≡ xs
    unfolding jobs-step is_job
    jobs-others (Land m) xs h = cond-false _ (xs ++ m ∷ []) xs (and-no-right (leg_eq m.leg Go) _ (and-no-right (has_completion script rules m.origin m.statement) (receiver script m == t) h))
    jobs-others (Issue a i) xs h = refl
    jobs-others (Pass a i) xs h = refl
    jobs-others (Refuse a i why) xs h = refl
    jobs-others (Enter a i) xs h = refl
    jobs-others (Copy m) xs h = refl
    jobs-others (Head m) xs h = refl
    jobs-others (Begin m a w) xs h = refl
    jobs-others (End m a w) xs h = refl

    pub jobs-local : (J : List Event) → landed_jobs script rules (events_at script t J) t ≡ landed_jobs script rules J t
    jobs-local J = folds script t (λ K. landed_jobs script rules K t) jobs-step jobs-steps jobs-others J

  runs-step : ℕ → Event → Option MsgName → Option MsgName
  runs-step w (Begin m a v) x = cond (a == t && v == w) (Some m) x
  runs-step w (End m a v) x = cond (a == t && v == w) None x
  runs-step w _ x = x

  runs-steps : (w : ℕ) (e : Event) (J : List Event) → runs (e ∷ J) t w ≡ runs-step w e (runs J t w)
  unfolding runs runs-step
  runs-steps w (Begin m a v) J = refl
  runs-steps w (End m a v) J = refl
  runs-steps w (Land m) J = refl
  runs-steps w (Issue a i) J = refl
  runs-steps w (Pass a i) J = refl
  runs-steps w (Refuse a i why) J = refl
  runs-steps w (Enter a i) J = refl
  runs-steps w (Copy m) J = refl
  runs-steps w (Head m) J = refl

  runs-others : (w : ℕ) (e : Event) (x : Option MsgName) → is_at script t e ≡ false → runs-step w e x ≡ x
  unfolding runs-step
  runs-others w (Begin m a v) x h = cond-false _ (Some m) x (and-no (a == t) (v == w) h)
  runs-others w (End m a v) x h = cond-false _ None x (and-no (a == t) (v == w) h)
  runs-others w (Land m) x h = refl
  runs-others w (Issue a i) x h = refl
  runs-others w (Pass a i) x h = refl
  runs-others w (Refuse a i why) x h = refl
  runs-others w (Enter a i) x h = refl
  runs-others w (Copy m) x h = refl
  runs-others w (Head m) x h = refl

  pub runs-local : (J : List Event) (w : ℕ) → runs (events_at script t J) t w ≡ runs J t w
  runs-local J w = folds script t (λ K. runs K t w) (runs-step w) (runs-steps w) (runs-others w) J

  -- What was refused.
  refusals-step : Event → List (ℕ × Refusal) → List (ℕ × Refusal)
  refusals-step (Refuse a i why) xs = xs ++ cond (a == t) ((i, why) ∷ []) []
  refusals-step _ xs = xs

  refusals-steps : (e : Event) (J : List Event) → refusals (e ∷ J) t ≡ refusals-step e (refusals J t)
  unfolding refusals refusals-step
  refusals-steps (Refuse a i why) J = refl
  refusals-steps (Issue a i) J = refl
  refusals-steps (Enter a i) J = refl
  refusals-steps (Pass a i) J = refl
  refusals-steps (Copy m) J = refl
  refusals-steps (Head m) J = refl
  refusals-steps (Land m) J = refl
  refusals-steps (Begin m a w) J = refl
  refusals-steps (End m a w) J = refl

  refusals-others : (e : Event) (xs : List (ℕ × Refusal)) → is_at script t e ≡ false → refusals-step e xs ≡ xs
  unfolding refusals-step
  refusals-others (Refuse a i why) xs h = ap (λ b. xs ++ cond b ((i, why) ∷ []) []) h ∙ append-nil xs
  refusals-others (Issue a i) xs h = refl
  refusals-others (Enter a i) xs h = refl
  refusals-others (Pass a i) xs h = refl
  refusals-others (Copy m) xs h = refl
  refusals-others (Head m) xs h = refl
  refusals-others (Land m) xs h = refl
  refusals-others (Begin m a w) xs h = refl
  refusals-others (End m a w) xs h = refl

  pub refusals-local : (J : List Event) → refusals (events_at script t J) t ≡ refusals J t
  refusals-local J = folds script t (λ K. refusals K t) refusals-step refusals-steps refusals-others J
