-- A quiet record is final, and stays as it is while no task takes a step.
use Rattle.std.proofs.Common.{◌≡◌, ℕ, ◌<◌, ◌==◌, Bool, true, false, cond, ◌&&◌, not, [], ◌∷◌, ◌++◌, length, Some, refl, sym, ap, ◌∙◌, subst, ⊎_elim}
use Rattle.std.specs.Prelude.{is_some}
use Rattle.std.specs.List.{AllByRecursion, list_all}
use Rattle.std.proofs.lemmas.Bool.{true≢false, false≢true, and_parts, and_from, both_ways, cond_both, cond-true, cond-false, eqb-true, eq-eqb, ltb-true, or_right, false_from_ne_true, not-true}
use Rattle.lapi_base.specs.declared.script.Script.{Script}
use Rattle.lapi_base.specs.declared.rule.Rules.{Rules}
use Rattle.lapi_base.specs.declared.message.Leg.TheVariants.{Go, Back, Note, Echo, Join}
use Rattle.lapi_base.specs.declared.message.Leg.{Leg}
use Rattle.lapi_base.specs.declared.event.Event.TheVariants.{Copy}
use Rattle.lapi_base.specs.Record.Names.{EventKey, Issued, Entered, Copied, Landed, Begun, Ended, happened, message}
use Rattle.lapi_base.specs.Record.Operations.{statements, statement, is_data, has_back, has_join, has_leg, cmpl_counter, target, sender, receiver}
use Rattle.lapi_base.specs.Record.Handlers.{has_completion, answers}
use Rattle.lapi_base.specs.Record.Jobs.{is_job, runs}
use Rattle.lapi_base.specs.Record.Wires.{Run}
use Rattle.lapi_base.specs.Record.Acts.{joins, to_copy_of, ready, after_land, note_of, after_end}
use Rattle.lapi_base.specs.Record.Atomic.{only_if, to_land, to_follow, chain, join_chain}
use Rattle.lapi_base.specs.Record.Final.{Quiet, Final}
use Rattle.lapi_base.proofs.ListLaws.{all-append, list_all-at}
use Rattle.lapi_base.proofs.TestLaws.{eqb-refl}
use Rattle.lapi_laws.proofs.Backward.{there}
use Rattle.lapi_laws.proofs.Workers.{begun}
use Rattle.lapi_laws.proofs.Lines.{SoundRun, to-land, answer-completion}
use Rattle.lapi_laws.proofs.Follows.{Stand, Owes}
use Rattle.lapi_laws.proofs.Quiet.{numbers_below-each, joins-each, cmpl-no_back, join-no_data, copied-landed, target-room, all-begun, goes}

module _ (script : Script) (rules : Rules) where
  -- what may be copied was
  each-copied : (r : Run) → Quiet script rules r → (t i : ℕ) → t < script.tasks → i < length (statements script t) → list_all (λ m. happened (Copied m) r.journal) (to_copy_of script r.journal t i) ≡ true
  unfolding ready
  each-copied r q t i room l = numbers_below-each (λ m. happened (Copied m) r.journal) (to_copy_of script r.journal t) (length (statements script t)) i (q.resting.no_copy t room) l

  module _ (r : Run) (s : SoundRun script rules r) (o : Owes script rules r.journal) (q : Quiet script rules r) where
    module _ (a i : ℕ) (d : is_data (statement script a i) ≡ true) (issued : happened (Issued a i) r.journal ≡ true) where
      room : (a < script.tasks) × (i < length (statements script a))
      room =
          let is = and_parts _ _ (and_parts _ _ (there script rules (Issued a i) r.journal s.atomic issued)).0 in
          (ltb-true _ _ is.0, ltb-true _ _ is.1)

      target-in : target script a i < script.tasks
      target-in = target-room script rules r.journal a i s.atomic issued d

      go-copied : happened (Copied (message a i Go)) r.journal ≡ true
      go-copied =
          let h = subst (λ ms. list_all (λ m. happened (Copied m) r.journal) ms ≡ true) (cond-true (is_data (statement script a i) && happened (Issued a i) r.journal) (message a i Go ∷ []) _ (and_from _ _ d issued)) (each-copied r q a i room.0 room.1) in
          (and_parts _ _ h).0

      go-landed : happened (Landed (message a i Go)) r.journal ≡ true
      go-landed = copied-landed script rules r s q (message a i Go) room.0 target-in go-copied

      job : has_completion script rules a i ≡ true → is_job script rules (target script a i) (message a i Go) ≡ true
      unfolding is_job
      job c = and_from _ _ c (eqb-refl (target script a i))

      job-begun : has_completion script rules a i ≡ true → happened (Begun (message a i Go)) r.journal ≡ true
      job-begun c = all-begun script rules r.journal (target script a i) (message a i Go) (q.resting.none_waits (target script a i) target-in) (job c) go-landed

      job-ended : has_completion script rules a i ≡ true → happened (Ended (message a i Go)) r.journal ≡ true
      job-ended c =
          ⊎_elim
          (λ (x : happened (Ended (message a i Go)) r.journal ≡ true). x)
          (λ (x : (t : ℕ) × ((w : ℕ) × (runs r.journal t w ≡ Some (message a i Go)))).
          let ends = and_parts _ _ (begun script rules r.journal x.0 x.1.0 (message a i Go) s.atomic x.1.1).1 in
          let place = and_parts _ _ (and_parts _ _ ends.1).1 in
          let free = q.resting.none_runs x.0 x.1.0 (ltb-true _ _ place.0) (ltb-true _ _ place.1) in
          absurd (false≢true (ap is_some (sym free ∙ x.1.1))))
          (goes script rules r.journal (message a i Go) s.atomic (job-begun c))

      land-stands : Stand r.journal (after_land script rules (message a i Go))
      land-stands = o.lands (message a i Go) go-landed

      back-copied : has_back (statement script a i) ≡ true → happened (Copied (message a i Back)) r.journal ≡ true
      back-copied b = (subst (λ x. Stand r.journal (cond x (Copy (message a i Back) ∷ []) (cond (has_completion script rules a i) [] (note_of script rules (message a i Go))))) b land-stands).0

      ended-stands : has_completion script rules a i ≡ true → Stand r.journal (after_end script rules (message a i Go))
      ended-stands e = o.ends (message a i Go) (job-ended e)

      note-stands : (is_some (cmpl_counter (statement script a i)) && not (answers script rules a i)) ≡ true → Stand r.journal (note_of script rules (message a i Go))
      note-stands c =
          let both = and_parts _ _ c in
          elim (has_completion script rules a i) as (λ x. has_completion script rules a i ≡ x → Stand r.journal (note_of script rules (message a i Go))) [
            | true ↦ λ e. subst (λ x. Stand r.journal (cond x (Copy (message a i Echo) ∷ []) (note_of script rules (message a i Go)))) (not-true _ both.1) (ended-stands e)
            | false ↦ λ e.
                subst (λ x. Stand r.journal (cond x [] (note_of script rules (message a i Go)))) e
                (subst (λ x. Stand r.journal (cond x (Copy (message a i Back) ∷ []) (cond (has_completion script rules a i) [] (note_of script rules (message a i Go))))) (cmpl-no_back (statement script a i) both.0) land-stands)
          ] refl

      note-copied : (is_some (cmpl_counter (statement script a i)) && not (answers script rules a i)) ≡ true → happened (Copied (message a i Note)) r.journal ≡ true
      note-copied c = (subst (λ x. Stand r.journal (cond x (Copy (message a i Note) ∷ []) [])) (and_parts _ _ c).0 (note-stands c)).0

      echo-copied : answers script rules a i ≡ true → happened (Copied (message a i Echo)) r.journal ≡ true
      echo-copied c = (subst (λ x. Stand r.journal (cond x (Copy (message a i Echo) ∷ []) (note_of script rules (message a i Go)))) c (ended-stands (answer-completion script rules a i c))).0

      -- the copy and the landing of a leg, where it has one
      both-ends : (leg : Leg) (has : Bool) → sender script (message a i leg) < script.tasks → receiver script (message a i leg) < script.tasks → (has ≡ true → happened (Copied (message a i leg)) r.journal ≡ true) → AllByRecursion (λ x. happened x r.journal ≡ true) (only_if has (Copied (message a i leg) ∷ Landed (message a i leg) ∷ []))
      both-ends leg has from to copied =
          cond_both has (Copied (message a i leg) ∷ Landed (message a i leg) ∷ []) [] (AllByRecursion (λ x. happened x r.journal ≡ true)) (λ e. (copied e, (copied-landed script rules r s q (message a i leg) from to (copied e), tt))) (λ _. tt)

      whole : list_all (λ x. happened x r.journal) (chain script rules a i) ≡ true
      whole =
          let P = λ (x : EventKey). happened x r.journal ≡ true in
          let back = only_if (has_back (statement script a i)) (Copied (message a i Back) ∷ Landed (message a i Back) ∷ []) in
          let note = only_if (is_some (cmpl_counter (statement script a i)) && not (answers script rules a i)) (Copied (message a i Note) ∷ Landed (message a i Note) ∷ []) in
          let echo = only_if (answers script rules a i) (Copied (message a i Echo) ∷ Landed (message a i Echo) ∷ []) in
          list_all-at (λ x. happened x r.journal) (chain script rules a i)
          (all-append P ((to_follow script rules a i ++ back) ++ note) echo
          (all-append P (to_follow script rules a i ++ back) note
          (all-append P (to_follow script rules a i) back
          (all-append P (only_if (has_completion script rules a i) (Begun (message a i Go) ∷ Ended (message a i Go) ∷ [])) (Landed (message a i Go) ∷ to_land script rules a i)
          (cond_both (has_completion script rules a i) (Begun (message a i Go) ∷ Ended (message a i Go) ∷ []) [] (AllByRecursion P) (λ e. (job-begun e, (job-ended e, tt))) (λ _. tt))
          (go-landed, to-land script rules r.journal a i s.atomic go-landed))
          (both-ends Back (has_back (statement script a i)) target-in room.0 back-copied))
          (both-ends Note (is_some (cmpl_counter (statement script a i)) && not (answers script rules a i)) target-in room.0 note-copied))
          (both-ends Echo (answers script rules a i) target-in room.0 echo-copied))

    joined-whole : (a i d : ℕ) → happened (Entered a i) r.journal ≡ true → has_leg script (answers script rules a i) a (Join d) (statement script a i) ≡ true → list_all (λ x. happened x r.journal) (join_chain a i d) ≡ true
    joined-whole a i d entered leg =
        let is = and_parts _ _ (there script rules (Entered a i) r.journal s.atomic entered) in
        let parts = and_parts _ _ leg in
        let ends = and_parts _ _ parts.1 in
        let no_data = join-no_data (statement script a i) parts.0 in
        let h = subst (λ ms. list_all (λ m. happened (Copied m) r.journal) ms ≡ true)
        (cond-false (is_data (statement script a i) && happened (Issued a i) r.journal) (message a i Go ∷ []) (cond (has_join (statement script a i) && happened (Entered a i) r.journal) (joins script a i) []) (Rattle.std.proofs.lemmas.Bool.and_left _ _ no_data) ∙ cond-true (has_join (statement script a i) && happened (Entered a i) r.journal) (joins script a i) [] (and_from _ _ parts.0 entered))
        (each-copied r q a i (ltb-true _ _ is.0) (ltb-true _ _ is.1)) in
        let copied = joins-each (λ m. happened (Copied m) r.journal) (λ e. message a i (Join e)) (λ e. not (e == a)) script.tasks d h (ltb-true _ _ ends.0) ends.1 in
        let landed = copied-landed script rules r s q (message a i (Join d)) (ltb-true _ _ is.0) (ltb-true _ _ ends.0) copied in
        and_from _ _ entered (and_from _ _ copied (and_from _ _ landed refl))

    pub quiet-final : Final script rules r.journal
    quiet-final = record { operations = whole; entered = joined-whole }
