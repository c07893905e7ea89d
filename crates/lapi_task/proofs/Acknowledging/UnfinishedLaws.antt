-- What a record's growth leaves of the data operations that are not done.
use Rattle.std.proofs.Common.{◌≡◌, ℕ, ◌<◌, ◌≤◌, ◌==◌, max, Bool, true, false, cond, ◌&&◌, not, List, ◌∷◌, length, refl, sym, ap, ◌∙◌, subst, ⊎_elim, arith}
use Rattle.std.specs.Prelude.{slice_index, slice_set}
use Rattle.std.proofs.lemmas.Bool.{cond-true, cond_both, cases_eq, ne_eqb, and_left, and_right, false_from_ne_true, both_ways}
use Rattle.std.proofs.lemmas.List.{length-set}
use Rattle.lapi_base.specs.declared.script.Script.{Script}
use Rattle.lapi_base.specs.declared.rule.Rules.{Rules}
use Rattle.lapi_base.specs.declared.event.Event.{Event}
use Rattle.lapi_base.specs.declared.event.Event.TheVariants.{Issue, Copy, Head, Land}
use Rattle.lapi_base.specs.declared.message.Leg.{Leg}
use Rattle.lapi_base.specs.declared.message.Leg.TheVariants.{Go, Back, Note, Echo, Join}
use Rattle.lapi_base.specs.declared.message.MsgName.{MsgName}
use Rattle.lapi_base.specs.Laws.Copying.{unacknowledged}
use Rattle.lapi_base.specs.Record.Atomic.{Atomic}
use Rattle.lapi_base.specs.Record.Names.{message, name_eq, leg_eq, happened, key_of, key_eq, Issued, Copied, Landed}
use Rattle.lapi_base.specs.Record.Operations.{statements, statement, is_data, has_back, receiver, fragment_count}
use Rattle.lapi_base.specs.Record.Wires.{Run, numbered, is_acked, data_done}
use Rattle.lapi_base.proofs.NameLaws.{happened-head, happened-other}
use Rattle.lapi_collect.specs.Outstanding.{is_open}
use Rattle.lapi_parts.proofs.CopiedCounts.{count_in, step-count, own-copy, uncopied-count, count-is, counted-same}
use Rattle.lapi_parts.proofs.UnackedCounts.{done-is}
use Rattle.lapi_task.specs.declared.unfinished.Unfinished.{Unfinished}
use Rattle.lapi_task.specs.Unfinished.{is_unfinished, flags_issued, flags_closed, Tracks}
use Rattle.lapi_task.proofs.Copying.CopyLists.{other-message}
use Rattle.lapi_task.proofs.Acknowledging.TimesLaws.{number-here, number-there, flag-here, flag-there}

-- a message has a fragment
fragments-some : (script : Script) (m : MsgName) → 1 ≤ fragment_count script m
unfolding fragment_count
fragments-some script m = least _
  where
    least : (n : ℕ) → 1 ≤ max 1 n
    least n = omega arith

module _ (script : Script) (rules : Rules) (t : ℕ) where
  abbrev go : ℕ → MsgName
  go i = message t i Go

  -- of statement i both records tell the same
  pub record StaysAt (r w : Run) (i : ℕ) : Type 0 where
    pub issued : happened (Issued t i) w.journal ≡ happened (Issued t i) r.journal
    pub copied : happened (Copied (message t i Go)) w.journal ≡ happened (Copied (message t i Go)) r.journal
    pub landed : happened (Landed (message t i Back)) w.journal ≡ happened (Landed (message t i Back)) r.journal
    pub count : happened (Copied (message t i Go)) r.journal ≡ true → unacknowledged script rules w t i ≡ unacknowledged script rules r t i

  pub done-back : (r : Run) (i : ℕ) → has_back (statement script t i) ≡ true → data_done script r t i ≡ happened (Landed (message t i Back)) r.journal
  unfolding data_done
  done-back r i h = cond-true (has_back (statement script t i)) (happened (Landed (message t i Back)) r.journal) _ h

  done-same : (r w : Run) (i : ℕ) → StaysAt r w i → data_done script w t i ≡ data_done script r t i
  done-same r w i h =
      elim (has_back (statement script t i)) as (λ b. has_back (statement script t i) ≡ b → data_done script w t i ≡ data_done script r t i) [
        | true ↦ λ e. done-back w i e ∙ h.landed ∙ sym (done-back r i e)
        | false ↦ λ e. done-is script rules w t i e ∙ counted (happened (Copied (go i)) r.journal) refl ∙ sym (done-is script rules r t i e)
      ] refl
    where
      counted : (b : Bool) → happened (Copied (go i)) r.journal ≡ b → (happened (Copied (go i)) w.journal && unacknowledged script rules w t i == 0) ≡ (happened (Copied (go i)) r.journal && unacknowledged script rules r t i == 0)
      counted true e = (λ k. h.copied k && h.count e k == 0)
      counted false e = and_left (happened (Copied (go i)) w.journal) _ (h.copied ∙ e) ∙ sym (and_left (happened (Copied (go i)) r.journal) _ e)

  unfinished-same : (r w : Run) (i : ℕ) → StaysAt r w i → is_unfinished script w t i ≡ is_unfinished script r t i
  unfinished-same r w i h = λ k. is_data (statement script t i) && (h.issued k && not (done-same r w i h k))

  left-same : (u : Unfinished) (r w : Run) (i : ℕ) → StaysAt r w i → Tracks script rules t u r → has_back (statement script t i) ≡ false → happened (Copied (message t i Go)) w.journal ≡ true → slice_index u.left i ≡ unacknowledged script rules w t i
  left-same u r w i s h b d = let was = sym s.copied ∙ d in h.left i b was ∙ sym (s.count was)

  -- so what is tracked stays so,
  pub tracks-stay : (u : Unfinished) (r w : Run) → ((i : ℕ) → StaysAt r w i) → Tracks script rules t u r → Tracks script rules t u w
  tracks-stay u r w s h = record {
    size = h.size;
    undone = λ i. h.undone i ∙ sym (unfinished-same r w i (s i));
    left = λ i b d. left-same u r w i (s i) h b d;
  }

  -- where the same happened and the same was acknowledged,
  pub same-told : (r w : Run) → w.journal ≡ r.journal → ((b n : ℕ) → is_acked w t b n ≡ is_acked r t b n) → (i : ℕ) → StaysAt r w i
  same-told r w same told i = record {
    issued = ap (happened (Issued t i)) same;
    copied = ap (happened (Copied (message t i Go))) same;
    landed = ap (happened (Landed (message t i Back))) same;
    count = λ d.
        let b = receiver script (go i) in
        counted-same script rules w t i (is_acked r t b) (told b)
        ∙ ap (λ J. count_in script (go i) (numbered script J t b) (λ n. not (is_acked r t b n))) same
        ∙ sym (count-is script rules r t i);
  }

  -- and where one event more is none of the statement's.
  abbrev pub with_event : Run → Event → Run
  with_event r e = record r { journal = e ∷ r.journal }

  pub event-stays : (r : Run) (e : Event) (i : ℕ) → Atomic script rules (e ∷ r.journal) → key_eq (Issued t i) (key_of e) ≡ false → key_eq (Copied (message t i Go)) (key_of e) ≡ false → key_eq (Landed (message t i Back)) (key_of e) ≡ false → StaysAt r (with_event r e) i
  event-stays r e i atomic issue copy land = record {
    issued = happened-other (Issued t i) e r.journal issue;
    copied = happened-other (Copied (message t i Go)) e r.journal copy;
    landed = happened-other (Landed (message t i Back)) e r.journal land;
    count = λ d.
        let b = receiver script (go i) in
        count-is script rules (with_event r e) t i
        ∙ step-count script (go i) rules (λ n. not (is_acked r t b n)) e r.journal atomic d
        ∙ sym (count-is script rules r t i);
  }

  pub quiet-stays : (r : Run) (e : Event) (i : ℕ) → ((b : ℕ) → numbered script (e ∷ r.journal) t b ≡ numbered script r.journal t b) → key_eq (Issued t i) (key_of e) ≡ false → key_eq (Copied (message t i Go)) (key_of e) ≡ false → key_eq (Landed (message t i Back)) (key_of e) ≡ false → StaysAt r (with_event r e) i
  quiet-stays r e i numbers issue copy land = record {
    issued = happened-other (Issued t i) e r.journal issue;
    copied = happened-other (Copied (message t i Go)) e r.journal copy;
    landed = happened-other (Landed (message t i Back)) e r.journal land;
    count = λ d.
        let b = receiver script (go i) in
        count-is script rules (with_event r e) t i
        ∙ ap (λ (ps : List (MsgName × ℕ)). count_in script (go i) ps (λ n. not (is_acked r t b n))) (numbers b)
        ∙ sym (count-is script rules r t i);
  }

  pub tracks-told : (u : Unfinished) (r w : Run) → w.journal ≡ r.journal → ((b n : ℕ) → is_acked w t b n ≡ is_acked r t b n) → Tracks script rules t u r → Tracks script rules t u w
  tracks-told u r w same told = tracks-stay u r w (same-told r w same told)

  issue-numbers : (i : ℕ) (J : List Event) (b : ℕ) → numbered script (Issue t i ∷ J) t b ≡ numbered script J t b
  unfolding numbered
  issue-numbers i J b = refl

  land-numbers : (m : MsgName) (J : List Event) (b : ℕ) → numbered script (Land m ∷ J) t b ≡ numbered script J t b
  unfolding numbered
  land-numbers m J b = refl

  head-numbers : (m : MsgName) (J : List Event) (b : ℕ) → numbered script (Head m ∷ J) t b ≡ numbered script J t b
  unfolding numbered
  head-numbers m J b = refl

  -- the call of a header handler leaves it too
  pub tracks-headed : (u : Unfinished) (r : Run) (m : MsgName) → Tracks script rules t u r → Tracks script rules t u (with_event r (Head m))
  tracks-headed u r m = tracks-stay u r (with_event r (Head m)) (λ i. quiet-stays r (Head m) i (head-numbers m r.journal) refl refl refl)

  apart-names : (i j : ℕ) → (i ≡ j → ⊥) → (t == t && i == j) ≡ false
  apart-names i j apart = and_right (t == t) (i == j) (ne_eqb i j apart)

  other-back : (i j : ℕ) → (i ≡ j → ⊥) → name_eq (message t i Back) (message t j Back) ≡ false
  unfolding name_eq
  other-back i j apart = and_left (t == t && i == j) _ (apart-names i j apart)

  -- ---- the issue of a data operation

  not-done : (r : Run) (i : ℕ) → happened (Copied (message t i Go)) r.journal ≡ false → happened (Landed (message t i Back)) r.journal ≡ false → data_done script r t i ≡ false
  not-done r i copied landed =
      elim (has_back (statement script t i)) as (λ b. has_back (statement script t i) ≡ b → data_done script r t i ≡ false) [
        | true ↦ λ e. done-back r i e ∙ landed
        | false ↦ λ e. done-is script rules r t i e ∙ and_left (happened (Copied (go i)) r.journal) _ copied
      ] refl

  pub tracks-issued : (u : Unfinished) (r : Run) (j : ℕ) → j < length (statements script t) → happened (Copied (message t j Go)) r.journal ≡ false → happened (Landed (message t j Back)) r.journal ≡ false → Tracks script rules t u r → Tracks script rules t (record u { undone = flags_issued (is_data (statement script t j)) j u.undone }) (with_event r (Issue t j))
  tracks-issued u r j within copied landed h =
      let w = with_event r (Issue t j) in
      let has = is_data (statement script t j) in
      let flags = flags_issued has j u.undone in
      record {
        size = (cond_both has (slice_set u.undone j true) u.undone (λ xs. length xs ≡ length (statements script t)) (λ _. length-set u.undone j true ∙ h.size.0) (λ _. h.size.0), h.size.1);
        undone = λ i.
            ⊎_elim
            (λ (same : i ≡ j). subst (λ k. is_open flags k ≡ is_unfinished script w t k) (sym same) (opened w has refl))
            (λ (apart : i ≡ j → ⊥). other has i apart ∙ h.undone i ∙ sym (unfinished-same r w i (stays i apart)))
            (cases_eq i j);
        left = λ i b d.
            ⊎_elim
            (λ (same : i ≡ j). absurd (both_ways _ (happened-other (Copied (message t j Go)) (Issue t j) r.journal refl ∙ copied) (subst (λ k. happened (Copied (message t k Go)) w.journal ≡ true) same d)))
            (λ (apart : i ≡ j → ⊥). left-same u r w i (stays i apart) h b d)
            (cases_eq i j);
      }
    where
      stays : (i : ℕ) → (i ≡ j → ⊥) → StaysAt r (with_event r (Issue t j)) i
      stays i apart = quiet-stays r (Issue t j) i (issue-numbers j r.journal) (apart-names i j apart) refl refl

      other : (b : Bool) (i : ℕ) → (i ≡ j → ⊥) → is_open (flags_issued b j u.undone) i ≡ is_open u.undone i
      other true i apart = flag-there u.undone j true i apart
      other false i apart = refl

      opened : (w : Run) (b : Bool) → is_data (statement script t j) ≡ b → is_open (flags_issued b j u.undone) j ≡ is_unfinished script (with_event r (Issue t j)) t j
      opened w true e =
          flag-here u.undone j true (let s = h.size.0 in let l = within in omega (arith, s, l))
          ∙ sym (λ k. e k && (happened-head (Issue t j) r.journal k && not (not-done (with_event r (Issue t j)) j (happened-other (Copied (message t j Go)) (Issue t j) r.journal refl ∙ copied) (happened-other (Landed (message t j Back)) (Issue t j) r.journal refl ∙ landed) k)))
      opened w false e = h.undone j ∙ and_left (is_data (statement script t j)) _ e ∙ sym (and_left (is_data (statement script t j)) _ e)

  -- ---- the copy of its data

  pub tracks-copied : (u : Unfinished) (r : Run) (j : ℕ) → Atomic script rules (Copy (message t j Go) ∷ r.journal) → j < length (statements script t) → happened (Copied (message t j Go)) r.journal ≡ false → ((b n : ℕ) → is_acked r t b n ≡ true → n < length (numbered script r.journal t b)) → Tracks script rules t u r → Tracks script rules t (record u { left = slice_set u.left j (fragment_count script (message t j Go)) }) (with_event r (Copy (message t j Go)))
  tracks-copied u r j atomic within new told h =
      let w = with_event r (Copy (go j)) in
      let left = slice_set u.left j (fragment_count script (go j)) in
      record {
        size = (h.size.0, length-set u.left j (fragment_count script (go j)) ∙ h.size.1);
        undone = λ i.
            ⊎_elim
            (λ (same : i ≡ j). subst (λ k. is_open u.undone k ≡ is_unfinished script w t k) (sym same) (h.undone j ∙ sym still-open))
            (λ (apart : i ≡ j → ⊥). h.undone i ∙ sym (unfinished-same r w i (stays i apart)))
            (cases_eq i j);
        left = λ i b d.
            ⊎_elim
            (λ (same : i ≡ j). subst (λ k. slice_index left k ≡ unacknowledged script rules w t k) (sym same) (number-here u.left j (fragment_count script (go j)) (let s = h.size.1 in let l = within in omega (arith, s, l)) ∙ sym counted))
            (λ (apart : i ≡ j → ⊥). number-there u.left j (fragment_count script (go j)) i apart ∙ left-same u r w i (stays i apart) h b d)
            (cases_eq i j);
      }
    where
      stays : (i : ℕ) → (i ≡ j → ⊥) → StaysAt r (with_event r (Copy (go j))) i
      stays i apart = event-stays r (Copy (go j)) i atomic refl (other-message t j i apart) refl

      counted : unacknowledged script rules (with_event r (Copy (go j))) t j ≡ fragment_count script (go j)
      counted =
          let b = receiver script (go j) in
          let passes = λ (n : ℕ). not (is_acked r t b n) in
          count-is script rules (with_event r (Copy (go j))) t j
          ∙ own-copy script (go j) r.journal passes (uncopied-count script (go j) r.journal passes new) (λ n l. ap not (false_from_ne_true _ (λ yes. let k = told b n yes in absurd (omega (arith, l, k)))))

      done-then : data_done script (with_event r (Copy (go j))) t j ≡ data_done script r t j
      done-then =
          elim (has_back (statement script t j)) as (λ b. has_back (statement script t j) ≡ b → data_done script (with_event r (Copy (go j))) t j ≡ data_done script r t j) [
            | true ↦ λ e. done-back (with_event r (Copy (go j))) j e ∙ happened-other (Landed (message t j Back)) (Copy (go j)) r.journal refl ∙ sym (done-back r j e)
            | false ↦ λ e.
                done-is script rules (with_event r (Copy (go j))) t j e
                ∙ and_right (happened (Copied (go j)) (Copy (go j) ∷ r.journal)) _ (ap (λ n. n == 0) counted ∙ ne_eqb (fragment_count script (go j)) 0 (λ none. let some = fragments-some script (go j) in absurd (omega (arith, none, some))))
                ∙ sym (done-is script rules r t j e ∙ and_left (happened (Copied (go j)) r.journal) _ new)
          ] refl

      still-open : is_unfinished script (with_event r (Copy (go j))) t j ≡ is_unfinished script r t j
      still-open = λ k. is_data (statement script t j) && (happened-other (Issued t j) (Copy (go j)) r.journal refl k && not (done-then k))

  -- ---- the landing of an answer

  pub tracks-answered : (u : Unfinished) (r : Run) (j : ℕ) → j < length (statements script t) → has_back (statement script t j) ≡ true → Tracks script rules t u r → Tracks script rules t (record u { undone = slice_set u.undone j false }) (with_event r (Land (message t j Back)))
  tracks-answered u r j within back h =
      let w = with_event r (Land (message t j Back)) in
      let flags = slice_set u.undone j false in
      record {
        size = (length-set u.undone j false ∙ h.size.0, h.size.1);
        undone = λ i.
            ⊎_elim
            (λ (same : i ≡ j). subst (λ k. is_open flags k ≡ is_unfinished script w t k) (sym same) (flag-here u.undone j false (let s = h.size.0 in let l = within in omega (arith, s, l)) ∙ sym closed))
            (λ (apart : i ≡ j → ⊥). flag-there u.undone j false i apart ∙ h.undone i ∙ sym (unfinished-same r w i (stays i apart)))
            (cases_eq i j);
        left = λ i b d.
            ⊎_elim
            (λ (same : i ≡ j). absurd (both_ways _ (ap (λ k. has_back (statement script t k)) (sym same) ∙ b) back))
            (λ (apart : i ≡ j → ⊥). left-same u r w i (stays i apart) h b d)
            (cases_eq i j);
      }
    where
      stays : (i : ℕ) → (i ≡ j → ⊥) → StaysAt r (with_event r (Land (message t j Back))) i
      stays i apart = quiet-stays r (Land (message t j Back)) i (land-numbers (message t j Back) r.journal) refl refl (other-back i j apart)

      closed : is_unfinished script (with_event r (Land (message t j Back))) t j ≡ false
      closed =
          and_right (is_data (statement script t j)) _ (and_right (happened (Issued t j) (Land (message t j Back) ∷ r.journal)) _
          (ap not (done-back (with_event r (Land (message t j Back))) j back ∙ happened-head (Land (message t j Back)) r.journal)))

  -- ---- the landing of a message that comes to the task

  other-leg : (i : ℕ) (m : MsgName) → leg_eq m.leg Back ≡ false → name_eq (message t i Back) m ≡ false
  unfolding name_eq
  other-leg i m h = and_right (t == m.origin && i == m.statement) (leg_eq Back m.leg) (turned m.leg h)
    where
      turned : (l : Leg) → leg_eq l Back ≡ false → leg_eq Back l ≡ false
      turned Back h = h
      turned _ h = refl

  pub tracks-landed : (u : Unfinished) (r : Run) (m : MsgName) → (m.leg ≡ Back → (m.origin ≡ t) × (m.statement < length (statements script t)) × (has_back (statement script t m.statement) ≡ true)) → Tracks script rules t u r → Tracks script rules t (record u { undone = flags_closed m u.undone }) (with_event r (Land m))
  tracks-landed u r m back h = by m.leg refl
    where
      other : leg_eq m.leg Back ≡ false → Tracks script rules t (record u { undone = flags_closed m u.undone }) (with_event r (Land m))
      other e =
          subst (λ b. Tracks script rules t (record u { undone = cond b (slice_set u.undone m.statement false) u.undone }) (with_event r (Land m))) (sym e)
          (tracks-stay u r (with_event r (Land m)) (λ i. quiet-stays r (Land m) i (land-numbers m r.journal) refl refl (other-leg i m e)) h)

      by : (l : Leg) → m.leg ≡ l → Tracks script rules t (record u { undone = flags_closed m u.undone }) (with_event r (Land m))
      by Back e =
          let known = back e in
          let same : message t m.statement Back ≡ m = (λ k. record { origin = sym known.0 k; statement = m.statement; leg = sym e k }) in
          subst (λ (x : MsgName). Tracks script rules t (record u { undone = flags_closed x u.undone }) (with_event r (Land x))) same
          (tracks-answered u r m.statement known.1 known.2 h)
      by Go e = other (ap (λ l. leg_eq l Back) e)
      by Note e = other (ap (λ l. leg_eq l Back) e)
      by Echo e = other (ap (λ l. leg_eq l Back) e)
      by (Join d) e = other (ap (λ l. leg_eq l Back) e)

  not-go : (i : ℕ) (m : MsgName) → leg_eq Go m.leg ≡ false → name_eq (message t i Go) m ≡ false
  unfolding name_eq
  not-go i m other = and_right (t == m.origin && i == m.statement) (leg_eq Go m.leg) other

  -- a message that follows is no data of the task's own
  pub tracks-followed : (u : Unfinished) (r : Run) (m : MsgName) → leg_eq Go m.leg ≡ false → Atomic script rules (Copy m ∷ r.journal) → Tracks script rules t u r → Tracks script rules t u (with_event r (Copy m))
  tracks-followed u r m other atomic h = tracks-stay u r (with_event r (Copy m)) (λ i. event-stays r (Copy m) i atomic refl (not-go i m other) refl) h
