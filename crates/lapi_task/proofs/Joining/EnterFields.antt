-- What a task knows of rounds after it has entered one.
use Rattle.std.proofs.Common.{◌≡◌, ◌↔◌, ℕ, ◌<◌, ◌≤◌, ◌==◌, Bool, true, false, cond, ◌&&◌, ◌||◌, List, ◌∷◌, length, Option, Some, None, refl, sym, ap, ◌∙◌, subst, arith}
use Rattle.std.specs.Prelude.{slice_get, unwrap_or, option_map}
use Rattle.std.proofs.lemmas.Bool.{false≢true, both_ways, cond-true, cond-false, eqb-true, false_from_ne_true}
use Rattle.std.proofs.lemmas.Option.{slice_get_within}
use Rattle.lapi_base.specs.declared.script.Script.{Script}
use Rattle.lapi_base.specs.declared.head.Head.{Head}
use Rattle.lapi_base.specs.declared.message.Leg.TheVariants.{Join}
use Rattle.lapi_base.specs.declared.statement.Statement.{Statement}
use Rattle.lapi_base.specs.declared.statement.Statement.TheVariants.{Gfence}
use Rattle.lapi_base.specs.declared.event.Event.{Event}
use Rattle.lapi_base.specs.declared.event.Event.TheVariants.{Enter}
use Rattle.lapi_base.specs.Laws.Rounds.{HasRound}
use Rattle.lapi_base.specs.Record.Names.{message, happened, Entered}
use Rattle.lapi_base.specs.Record.Operations.{statements, statement, is_gfence, is_table, has_join, table_rounds, entry, given_address}
use Rattle.lapi_base.specs.Record.Packets.{head_by}
use Rattle.lapi_base.specs.Record.Refusals.{next, gfence_rounds, rounds_like, round_of, join_landed}
use Rattle.lapi_base.specs.Record.Valid.{ValidScript}
use Rattle.lapi_base.proofs.BelowLaws.{below-member}
use Rattle.lapi_base.proofs.ListLaws.{some-same}
use Rattle.lapi_base.proofs.NameLaws.{happened-cons, happened-head}
use Rattle.lapi_base.proofs.TestLaws.{eqb-refl, same_tests}
use Rattle.lapi_collect.specs.Rounds.{Joins}
use Rattle.lapi_collect.specs.declared.rounds.TheConstants.{MOST_ROUNDS}
use Rattle.lapi_parts.proofs.RoundOrder.{rounds-in-order}
use Rattle.lapi_task.specs.declared.collective.Collective.{Collective}
use Rattle.lapi_task.specs.HasRounds.{has_entered, AreJoined, HasRounds, MayJoinRound, HasJoined, MayJoin, JoinsBy, joins_like}
use Rattle.lapi_task.specs.Joining.{IsHeadOfJoins}
use Rattle.lapi_task.proofs.Joining.KnownRounds.{few-below, few-tables}
use Rattle.lapi_task.proofs.Stepping.ReasonForms.{few-statements}

module _ (script : Script) (t : ℕ) (J : List Event) (i : ℕ) where
  module _ (rounds : (task : ℕ) → List ℕ) (value : (round task : ℕ) → ℕ) where
    abbrev at : (d r : ℕ) → Option ℕ
    at d r = slice_get (rounds d) r

    -- the call is none of these rounds
    apart-knows : (o : Option ℕ) → ((j : ℕ) → o ≡ Some j → (j == i) ≡ false) → has_entered (Enter t i ∷ J) t o ≡ has_entered J t o
    apart-knows None apart = refl
    apart-knows (Some j) apart = happened-cons (Entered t j) (Enter t i) J ∙ ap (λ b. (t == t && b) || happened (Entered t j) J) (apart j refl) ∙ none (t == t) (happened (Entered t j) J)
      where
        none : (a b : Bool) → ((a && false) || b) ≡ b
        none true b = refl
        none false b = refl

    landed-knows : (d : ℕ) (o : Option ℕ) → join_landed (Enter t i ∷ J) t d o ≡ join_landed J t d o
    landed-knows d None = refl
    landed-knows d (Some j) = happened-cons _ (Enter t i) J

    entered-other : (joins : Joins) → ((r j : ℕ) → at t r ≡ Some j → (j == i) ≡ false) → AreJoined script t rounds value joins J → AreJoined script t rounds value joins (Enter t i ∷ J)
    entered-other joins apart h = record {
      tasks = h.tasks;
      size = h.size;
      joined = λ d r. h.joined d r ∙ ap (λ b. cond b (Some (value r d)) None) (same d r (d == t) refl);
    }
      where
        same : (d r : ℕ) (b : Bool) → (d == t) ≡ b → cond b (has_entered J t (at d r)) (join_landed J t d (at d r)) ≡ cond b (has_entered (Enter t i ∷ J) t (at d r)) (join_landed (Enter t i ∷ J) t d (at d r))
        same d r true e = sym (apart-knows (at d r) (λ j is. apart r j (subst (λ n. at n r ≡ Some j) (eqb-true d t e) is)))
        same d r false e = sym (landed-knows d (at d r))

    -- it is this one
    module _ (round : ℕ) (own : (r : ℕ) → (at t r ≡ Some i) ↔ (r ≡ round)) where
      own-test : (r j : ℕ) → at t r ≡ Some j → (j == i) ≡ (r == round)
      own-test r j is =
          same_tests _ _
          (λ e. subst (λ n. (r == n) ≡ true) ((own r).0 (is ∙ ap Some (eqb-true j i e))) (eqb-refl r))
          (λ e. subst (λ n. (j == n) ≡ true) (some-same j i (sym is ∙ (own r).1 (eqb-true r round e))) (eqb-refl j))

      own-knows : (r : ℕ) (o : Option ℕ) → at t r ≡ o → cond (true && r == round) (Some (value round t)) (cond (has_entered J t o) (Some (value r t)) None) ≡ cond (has_entered (Enter t i ∷ J) t o) (Some (value r t)) None
      own-knows r None is = cond-false (r == round) (Some (value round t)) None (false_from_ne_true _ (λ e. let found : None ≡ Some i = sym is ∙ (own r).1 (eqb-true r round e) in absurd (cc)))
      own-knows r (Some j) is =
          by-round (r == round) refl
          ∙ sym (ap (λ b. cond b (Some (value r t)) None) (happened-cons (Entered t j) (Enter t i) J ∙ ap (λ b. (b && j == i) || happened (Entered t j) J) (eqb-refl t) ∙ ap (λ b. b || happened (Entered t j) J) (own-test r j is)))
        where
          by-round : (b : Bool) → (r == round) ≡ b → cond b (Some (value round t)) (cond (happened (Entered t j) J) (Some (value r t)) None) ≡ cond (b || happened (Entered t j) J) (Some (value r t)) None
          by-round true e = ap (λ n. Some (value n t)) (sym (eqb-true r round e))
          by-round false e = refl

      entered-own : (before after : Joins) → HasJoined t round (value round t) before after → AreJoined script t rounds value before J → AreJoined script t rounds value after (Enter t i ∷ J)
      entered-own before after g h = record {
        tasks = g.tasks ∙ h.tasks;
        size = g.size ∙ h.size;
        joined = λ d r. g.joined d r ∙ ap (cond (d == t && r == round) (Some (value round t))) (h.joined d r) ∙ same d r (d == t) refl;
      }
        where
          same : (d r : ℕ) (b : Bool) → (d == t) ≡ b → cond (b && r == round) (Some (value round t)) (cond (cond b (has_entered J t (at d r)) (join_landed J t d (at d r))) (Some (value r d)) None) ≡ cond (cond b (has_entered (Enter t i ∷ J) t (at d r)) (join_landed (Enter t i ∷ J) t d (at d r))) (Some (value r d)) None
          same d r true e = subst (λ n. cond (true && r == round) (Some (value round t)) (cond (has_entered J t (at n r)) (Some (value r n)) None) ≡ cond (has_entered (Enter t i ∷ J) t (at n r)) (Some (value r n)) None) (sym (eqb-true d t e)) (own-knows r (at t r) refl)
          same d r false e = ap (λ b. cond b (Some (value r d)) None) (sym (landed-knows d (at d r)))

      -- and may be joined where it was not entered
      may-join : (joins : Joins) → t < script.tasks → round < MOST_ROUNDS → happened (Entered t i) J ≡ false → AreJoined script t rounds value joins J → MayJoinRound t round joins
      may-join joins known few unentered h = record {
        task_known = let n = h.tasks in omega (arith, n, known);
        round_known = let n = h.size in omega (arith, n, few);
        first = h.joined t round ∙ ap (λ b. cond b (Some (value round t)) None) (cond-true (t == t) _ _ (eqb-refl t) ∙ ap (has_entered J t) ((own round).1 refl) ∙ unentered);
      }

-- A round is one of a statement of its kind.
fence-at : (script : Script) (t r j : ℕ) → slice_get (gfence_rounds script t) r ≡ Some j → is_gfence (statement script t j) ≡ true
unfolding gfence_rounds
fence-at script t r j is = (below-member (length (statements script t)) (λ k. is_gfence (statement script t k)) r j is).1

table-at : (script : Script) (t r j : ℕ) → slice_get (table_rounds script t) r ≡ Some j → is_table script (statement script t j) ≡ true
unfolding table_rounds
table-at script t r j is = (below-member (length (statements script t)) (λ k. is_table script (statement script t k)) r j is).1

few-fences : (script : Script) → ValidScript script → (t : ℕ) → length (gfence_rounds script t) ≤ 512
unfolding gfence_rounds
few-fences script valid t =
    let some = few-below (length (statements script t)) (λ i. is_gfence (statement script t i)) in
    let few = few-statements script valid t in
    omega (arith, some, few)

given-is : (script : Script) (round t i at : ℕ) → slice_get (table_rounds script t) round ≡ Some i → statement script t i ≡ Statement.Addr at → entry script round t ≡ at
unfolding entry
given-is script round t i at place e = ap (λ (o : Option ℕ). unwrap_or (option_map (λ k. given_address (statement script t k)) o) 0) place ∙ ap given_address e

-- The call of a task that has a round.
module _ (script : Script) (t : ℕ) (J : List Event) (i : ℕ) (has : HasRound script t i) where
  abbrev round : ℕ
  round = round_of script t i

  order : (xs : List ℕ) → rounds_like script (statement script t i) t ≡ xs → (r : ℕ) → (slice_get xs r ≡ Some i) ↔ (r ≡ round_of script t i)
  order xs same r = subst (λ ys. (slice_get ys r ≡ Some i) ↔ (r ≡ round_of script t i)) same (rounds-in-order script t i r has)

  -- it is a fence over all tasks,
  module _ (e : statement script t i ≡ Gfence) where
    fence-order : (r : ℕ) → (slice_get (gfence_rounds script t) r ≡ Some i) ↔ (r ≡ round_of script t i)
    fence-order = order (gfence_rounds script t) (ap (λ (s : Statement). rounds_like script s t) e)

    no-table : (r j : ℕ) → slice_get (table_rounds script t) r ≡ Some j → (j == i) ≡ false
    no-table r j is = false_from_ne_true _ (λ same. both_ways _ (ap (is_table script) e) (subst (λ k. is_table script (statement script t k) ≡ true) (eqb-true j i same) (table-at script t r j is)))

  -- or one that gives an address.
  module _ (given : ℕ) (e : statement script t i ≡ Statement.Addr given) where
    table-order : (r : ℕ) → (slice_get (table_rounds script t) r ≡ Some i) ↔ (r ≡ round_of script t i)
    table-order = order (table_rounds script t) (ap (λ (s : Statement). rounds_like script s t) e)

    no-fence : (r j : ℕ) → slice_get (gfence_rounds script t) r ≡ Some j → (j == i) ≡ false
    no-fence r j is = false_from_ne_true _ (λ same. both_ways _ (ap is_gfence e) (subst (λ k. is_gfence (statement script t k) ≡ true) (eqb-true j i same) (fence-at script t r j is)))

    entry-is : entry script (round_of script t i) t ≡ given
    entry-is = given-is script (round_of script t i) t i given ((table-order (round_of script t i)).1 refl) e

  fence-few : ValidScript script → statement script t i ≡ Gfence → round_of script t i < MOST_ROUNDS
  fence-few valid e =
      let l = slice_get_within (gfence_rounds script t) (round_of script t i) i ((fence-order e (round_of script t i)).1 refl) in
      let few = few-fences script valid t in
      omega (arith, l, few)

  table-few : ValidScript script → (given : ℕ) → statement script t i ≡ Statement.Addr given → round_of script t i < MOST_ROUNDS
  table-few valid given e =
      let l = slice_get_within (table_rounds script t) (round_of script t i) i ((table-order given e (round_of script t i)).1 refl) in
      let few = few-tables script valid t in
      omega (arith, l, few)

  pub round-few : ValidScript script → (s : Statement) → statement script t i ≡ s → has_join s ≡ true → (c : Collective) → HasRounds script t c J → round_of script t i < length (joins_like c s).rounds
  round-few valid Gfence e joins c h = let few = fence-few valid e in let n = h.fences.size in omega (arith, few, n)
  round-few valid (Statement.Addr given) e joins c h = let few = table-few valid given e in let n = h.tables.size in omega (arith, few, n)
  round-few valid _ e joins c h = absurd (false≢true joins)

  -- Its head names its round.
  head-is : (s : Statement) → statement script t i ≡ s → (head : Head) → IsHeadOfJoins script t i head → head ≡ head_by script (message t i (Join 0)) (Join 0) s
  head-is s e head is = is 0 ∙ ap (head_by script (message t i (Join 0)) (Join 0)) e

  pub may-join-by : ValidScript script → t < script.tasks → (s : Statement) → statement script t i ≡ s → has_join s ≡ true → (head : Head) → IsHeadOfJoins script t i head → happened (Entered t i) J ≡ false → (c : Collective) → HasRounds script t c J → MayJoin t head c
  may-join-by valid known Gfence e joins head is unentered c h =
      subst (λ x. MayJoin t x c) (sym (head-is Gfence e head is))
      (may-join script t J i (gfence_rounds script) (λ _ _. 0) (round_of script t i) (fence-order e) c.fences known (fence-few valid e) unentered h.fences)
  may-join-by valid known (Statement.Addr given) e joins head is unentered c h =
      subst (λ x. MayJoin t x c) (sym (head-is (Statement.Addr given) e head is))
      (may-join script t J i (table_rounds script) (entry script) (round_of script t i) (table-order given e) c.tables known (table-few valid given e) unentered h.tables)
  may-join-by valid known _ e joins head is unentered c h = absurd (false≢true joins)

  entered-now : i ≡ next J t → happened (Entered t (next (Enter t i ∷ J) t)) (Enter t i ∷ J) ≡ true
  unfolding next
  entered-now turn = subst (λ n. happened (Entered t n) (Enter t i ∷ J) ≡ true) turn (happened-head (Enter t i) J)

  pub entered-rounds : (s : Statement) → statement script t i ≡ s → has_join s ≡ true → (head : Head) → IsHeadOfJoins script t i head → i ≡ next J t → (before after : Collective) → JoinsBy t head (record before { entered = true }) after → HasRounds script t before J → HasRounds script t after (Enter t i ∷ J)
  entered-rounds Gfence e joins head is turn before after by h =
      let g = subst (λ x. JoinsBy t x (record before { entered = true }) after) (head-is Gfence e head is) by in
      record {
        entered = ap (λ (c : Collective). c.entered) g.1 ∙ sym (entered-now turn);
        fences = entered-own script t J i (gfence_rounds script) (λ _ _. 0) (round_of script t i) (fence-order e) before.fences after.fences g.0 h.fences;
        tables = subst (λ x. AreJoined script t (table_rounds script) (entry script) x (Enter t i ∷ J)) (sym (ap (λ (c : Collective). c.tables) g.1)) (entered-other script t J i (table_rounds script) (entry script) before.tables (no-table e) h.tables);
      }
  entered-rounds (Statement.Addr given) e joins head is turn before after by h =
      let g = subst (λ x. JoinsBy t x (record before { entered = true }) after) (head-is (Statement.Addr given) e head is) by in
      record {
        entered = ap (λ (c : Collective). c.entered) g.1 ∙ sym (entered-now turn);
        fences = subst (λ x. AreJoined script t (gfence_rounds script) (λ _ _. 0) x (Enter t i ∷ J)) (sym (ap (λ (c : Collective). c.fences) g.1)) (entered-other script t J i (gfence_rounds script) (λ _ _. 0) before.fences (no-fence given e) h.fences);
        tables = entered-own script t J i (table_rounds script) (entry script) (round_of script t i) (table-order given e) before.tables after.tables (subst (λ n. HasJoined t (round_of script t i) n before.tables after.tables) (sym (entry-is given e)) g.0) h.tables;
      }
  entered-rounds _ e joins head is turn before after by h = absurd (false≢true joins)
