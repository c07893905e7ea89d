-- What an event leaves of what a task knows of rounds.
use Rattle.std.proofs.Common.{◌≡◌, ℕ, ◌==◌, cond, List, ◌∷◌, Option, Some, None, refl, sym, ap, ◌∙◌, subst}
use Rattle.std.specs.Prelude.{slice_get, false}
use Rattle.lapi_base.specs.declared.script.Script.{Script}
use Rattle.lapi_base.specs.declared.event.Event.{Event}
use Rattle.lapi_base.specs.declared.message.Leg.TheVariants.{Join}
use Rattle.lapi_base.specs.Record.Names.{message, happened, key_of, key_eq, Entered, Landed}
use Rattle.lapi_base.specs.Record.Operations.{entry, table_rounds}
use Rattle.lapi_base.specs.Record.Refusals.{gfence_rounds, join_landed, next}
use Rattle.lapi_base.proofs.NameLaws.{happened-other}
use Rattle.lapi_collect.specs.Rounds.{Joins}
use Rattle.lapi_task.specs.declared.collective.Collective.{Collective}
use Rattle.lapi_task.specs.HasRounds.{has_entered, AreJoined, HasRounds}

-- the event enters no statement of the task, and lands no Join at it
pub record JoinsNone (t : ℕ) (e : Event) : Type 0 where
  pub entered : (i : ℕ) → key_eq (Entered t i) (key_of e) ≡ false
  pub landed : (d j : ℕ) → key_eq (Landed (message d j (Join t))) (key_of e) ≡ false

module _ (script : Script) (t : ℕ) (e : Event) (J : List Event) (none : JoinsNone t e) where
  entered-same : (o : Option ℕ) → has_entered (e ∷ J) t o ≡ has_entered J t o
  entered-same None = refl
  entered-same (Some i) = happened-other (Entered t i) e J (none.entered i)

  landed-same : (d : ℕ) (o : Option ℕ) → join_landed (e ∷ J) t d o ≡ join_landed J t d o
  landed-same d None = refl
  landed-same d (Some j) = happened-other (Landed (message d j (Join t))) e J (none.landed d j)

  pub joined-stay : (rounds : (task : ℕ) → List ℕ) (value : (round task : ℕ) → ℕ) (joins : Joins) → AreJoined script t rounds value joins J → AreJoined script t rounds value joins (e ∷ J)
  joined-stay rounds value joins h = record {
    tasks = h.tasks;
    size = h.size;
    joined = λ d round.
        let o = slice_get (rounds d) round in
        h.joined d round ∙ (λ k. cond (cond (d == t) (sym (entered-same o) k) (sym (landed-same d o) k)) (Some (value round d)) None);
  }

  -- The task knows of the same rounds, and of its next statement whether it was entered.
  pub rounds-told : (before after : Collective) → after.fences ≡ before.fences → after.tables ≡ before.tables → after.entered ≡ happened (Entered t (next (e ∷ J) t)) J → HasRounds script t before J → HasRounds script t after (e ∷ J)
  rounds-told before after fences tables entered h = record {
    entered = entered ∙ sym (happened-other (Entered t (next (e ∷ J) t)) e J (none.entered (next (e ∷ J) t)));
    fences = joined-stay (gfence_rounds script) (λ _ _. 0) after.fences (subst (λ (x : Joins). AreJoined script t (gfence_rounds script) (λ _ _. 0) x J) (sym fences) h.fences);
    tables = joined-stay (table_rounds script) (entry script) after.tables (subst (λ (x : Joins). AreJoined script t (table_rounds script) (entry script) x J) (sym tables) h.tables);
  }

  -- Where the next statement is the same one, what the task knows stays as it is.
  pub rounds-stay : (before after : Collective) → after ≡ before → next (e ∷ J) t ≡ next J t → HasRounds script t before J → HasRounds script t after (e ∷ J)
  rounds-stay before after same turn h =
      rounds-told before after (ap (λ (c : Collective). c.fences) same) (ap (λ (c : Collective). c.tables) same)
      (ap (λ (c : Collective). c.entered) same ∙ h.entered ∙ ap (λ i. happened (Entered t i) J) (sym turn)) h
