-- The memories after each epoch of a script whose operations read nothing that another of their epoch writes.
use Rattle.std.proofs.Common.{◌≡◌, ◌⊎◌, ℕ, zero, suc, ◌<◌, ◌≤◌, ◌==◌, Bool, true, false, cond, ◌&&◌, ◌||◌, List, [], ◌∷◌, length, Some, None, refl, sym, ap, ◌∙◌, subst, ⊎_elim, inl, inr, arith}
use Rattle.std.specs.List.{AllByRecursion}
use Rattle.std.proofs.Math.Seq.{take-length}
use Rattle.std.proofs.lemmas.Bool.{false≢true, or_from, and_parts, or_parts, both_ways, cond_both, cond-true, cond-false, eqb-true, cases_lt, cases_order, ltb-true, lt-ltb, le-ltb, cases_Bool, false_from_ne_true}
use Rattle.lapi_base.specs.declared.script.Script.{Script}
use Rattle.lapi_base.specs.declared.statement.Statement.{Statement}
use Rattle.lapi_base.specs.declared.statement.Statement.TheVariants.{Store, Put, Get, Putv, Getv, Rmw, Am}
use Rattle.lapi_base.specs.declared.rule.Rules.{Rules}
use Rattle.lapi_base.specs.declared.message.Leg.{Leg}
use Rattle.lapi_base.specs.declared.message.Leg.TheVariants.{Go, Back, Note, Echo, Join}
use Rattle.lapi_base.specs.declared.message.MsgName.{MsgName}
use Rattle.lapi_base.specs.declared.event.Event.{Event}
use Rattle.lapi_base.specs.declared.event.Event.TheVariants.{Issue, Refuse, Enter, Pass, Copy, Head, Land, Begin, End}
use Rattle.lapi_base.specs.Record.Names.{message, name_eq, leg_eq, EventKey, Issued, Refused, Entered, Passed, Copied, Headed, Landed, Begun, Ended, key_of, happened}
use Rattle.lapi_base.specs.Record.Operations.{statements, statement, address, spans, target_pieces, origin_pieces, target, is_data, is_am, is_rmw, has_back, is_gfence, one_span}
use Rattle.lapi_base.specs.Record.Handlers.{has_completion, answers, number_of}
use Rattle.lapi_base.specs.Record.Values.{Memories, values, gathered, scattered, byte_after, at_target, at_origin, store_writes, writes, writer, source_by}
use Rattle.lapi_base.specs.Record.Refusals.{next, refusal_of}
use Rattle.lapi_base.specs.Record.Atomic.{Atomic, Keeps, needs, to_land, only_if, has_statement, has_message, is_passed, data_landed}
use Rattle.lapi_base.specs.Laws.Entries.{carried}
use Rattle.lapi_base.specs.Laws.Headline.{HoldsOfAtomic}
use Rattle.lapi_laws.proofs.Lines.{answer-completion}
use Rattle.lapi_base.proofs.ListLaws.{list_all-each}
use Rattle.lapi_base.proofs.NameLaws.{name_eq-refl, happened-nil, happened-cases, happened-later, happened-head}
use Rattle.lapi_laws.proofs.Backward.{Atomic-head, Atomic-tail, closed, behind}
use Rattle.lapi_laws.proofs.Shorts.{last-of}
use Rattle.lapi_laws.proofs.Sound.{landed-copied}
use Rattle.lapi_parts.proofs.ExactBytes.{stays}
use Rattle.lapi_epochs.specs.Epochs.{epoch, Has, IsOver}
use Rattle.lapi_epochs.specs.Stages.{is_store, goes, comes, written_pieces, covers, reads_from, reads_at, writes_to, writes_at, is_written, write_deed, AreStages, IsAtStage, BytesAreStages, EndsAreStages}
use Rattle.lapi_epochs.proofs.EpochOrder.{has-of, issue-turn, epochs-wait}
use Rattle.lapi_epochs.proofs.GatheredPieces.{covers-none, gathered-agree, scatter-gathered}
use Rattle.lapi_laws.proofs.TakenStatements.{taken, kind}

-- ---- kinds of statements

pub goes-facts : (s : Statement) → goes s ≡ true → (is_am s ≡ false) × (is_rmw s ≡ false) × (has_back s ≡ false) × (is_data s ≡ true) × (comes s ≡ false)
goes-facts (Put target to from len tgt org cmpl) h = (refl, refl, refl, refl, refl)
goes-facts (Putv target to from tgt org cmpl) h = (refl, refl, refl, refl, refl)
goes-facts _ h = absurd (false≢true h)

pub comes-facts : (s : Statement) → comes s ≡ true → (goes s ≡ false) × (is_rmw s ≡ false) × (has_back s ≡ true) × (is_data s ≡ true) × (is_am s ≡ false)
comes-facts (Get target from to len tgt org) h = (refl, refl, refl, refl, refl)
comes-facts (Getv target from to tgt org) h = (refl, refl, refl, refl, refl)
comes-facts _ h = absurd (false≢true h)

store-facts : (s : Statement) → is_store s ≡ true → (goes s ≡ false) × (comes s ≡ false) × (is_data s ≡ false) × (is_gfence s ≡ false) × (is_passed s ≡ false)
store-facts (Store at bytes) h = (refl, refl, refl, refl, refl)
store-facts _ h = absurd (false≢true h)

data-cases : (s : Statement) → is_data s ≡ true → (is_am s || is_rmw s) ≡ false → (goes s ≡ true) ⊎ (comes s ≡ true)
data-cases (Put target to from len tgt org cmpl) h p = inl refl
data-cases (Putv target to from tgt org cmpl) h p = inl refl
data-cases (Get target from to len tgt org) h p = inr refl
data-cases (Getv target from to tgt org) h p = inr refl
data-cases (Rmw target op at in1 in2 prev org) h p = absurd (false≢true (sym p))
data-cases (Am target handler header from len tgt org cmpl) h p = absurd (false≢true (sym p))
data-cases _ h p = absurd (false≢true h)

back-comes : (s : Statement) → has_back s ≡ true → (is_am s || is_rmw s) ≡ false → comes s ≡ true
back-comes (Get target from to len tgt org) h p = refl
back-comes (Getv target from to tgt org) h p = refl
back-comes (Rmw target op at in1 in2 prev org) h p = absurd (false≢true (sym p))
back-comes _ h p = absurd (false≢true h)

pub data-not_passed : (s : Statement) → is_data s ≡ true → (is_passed s ≡ false) × (is_gfence s ≡ false)
data-not_passed (Put target to from len tgt org cmpl) h = (refl, refl)
data-not_passed (Putv target to from tgt org cmpl) h = (refl, refl)
data-not_passed (Get target from to len tgt org) h = (refl, refl)
data-not_passed (Getv target from to tgt org) h = (refl, refl)
data-not_passed (Rmw target op at in1 in2 prev org) h = (refl, refl)
data-not_passed (Am target handler header from len tgt org cmpl) h = (refl, refl)
data-not_passed _ h = absurd (false≢true h)

store-is : (s : Statement) → is_store s ≡ true → (at : ℕ) × (bytes : List ℕ) × (s ≡ Store at bytes)
store-is (Store at bytes) h = (at, bytes, refl)
store-is _ h = absurd (false≢true h)

not-store : (script : Script) (rules : Rules) (s : Statement) → is_store s ≡ false → store_writes script rules s ≡ []
not-store script rules (Store at bytes) h = absurd (false≢true (sym h))
not-store script rules _ h = refl

silent-pieces : (s : Statement) → goes s ≡ false → comes s ≡ false → is_store s ≡ false → written_pieces s ≡ []
silent-pieces s g c k = cond-false (goes s) (target_pieces s) _ g ∙ cond-false (comes s || is_store s) (origin_pieces s) [] (or_from (comes s) (is_store s) c k)

-- the statement that a key_of is of
deed_place : EventKey → ℕ × ℕ
deed_place (Issued a i) = (a, i)
deed_place (Refused a i) = (a, i)
deed_place (Entered a i) = (a, i)
deed_place (Passed a i) = (a, i)
deed_place (Copied m) = (m.origin, m.statement)
deed_place (Headed m) = (m.origin, m.statement)
deed_place (Landed m) = (m.origin, m.statement)
deed_place (Begun m) = (m.origin, m.statement)
deed_place (Ended m) = (m.origin, m.statement)

module _ (script : Script) (rules : Rules) where
  S : ℕ → ℕ → Statement
  S = statement script

  -- a statement that writes is of one of three kinds
  abbrev WrittenBy : (a i : ℕ) → Type 0
  WrittenBy a i =
      ((goes (statement script a i) ≡ true) × (write_deed script a i ≡ Landed (message a i Go)))
      ⊎ ((comes (statement script a i) ≡ true) × (write_deed script a i ≡ Landed (message a i Back)))
      ⊎ ((is_store (statement script a i) ≡ true) × (write_deed script a i ≡ Issued a i))

  goes-deed : (a i : ℕ) → goes (statement script a i) ≡ true → write_deed script a i ≡ Landed (message a i Go)
  goes-deed a i h = cond-true (goes (statement script a i)) _ _ h

  comes-deed : (a i : ℕ) → comes (statement script a i) ≡ true → write_deed script a i ≡ Landed (message a i Back)
  comes-deed a i h = cond-false (goes (statement script a i)) _ _ (comes-facts (statement script a i) h).0 ∙ cond-true (comes (statement script a i)) _ _ h

  store-deed : (a i : ℕ) → is_store (statement script a i) ≡ true → write_deed script a i ≡ Issued a i
  store-deed a i h = let f = store-facts (statement script a i) h in cond-false (goes (statement script a i)) _ _ f.0 ∙ cond-false (comes (statement script a i)) _ _ f.1

  written-by : (a i t x : ℕ) → is_written script a i t x ≡ true → WrittenBy a i
  written-by a i t x h =
      let s = statement script a i in
      ⊎_elim
      (λ (g : goes s ≡ true). inl (g, goes-deed a i g))
      (λ (g : goes s ≡ false).
      ⊎_elim
      (λ (c : comes s ≡ true). inr (inl (c, comes-deed a i c)))
      (λ (c : comes s ≡ false).
      ⊎_elim
      (λ (k : is_store s ≡ true). inr (inr (k, store-deed a i k)))
      (λ (k : is_store s ≡ false).
      let covered = (and_parts _ _ h).1 in
      absurd (both_ways _ (ap (λ ps. covers (spans script (target script a i) ps) x) (silent-pieces s g c k) ∙ covers-none x) covered))
      (cases_Bool (is_store s)))
      (cases_Bool (comes s)))
      (cases_Bool (goes s))

  -- the key_of tells the statement
  written-place : (a i : ℕ) → deed_place (write_deed script a i) ≡ (a, i)
  unfolding deed_place
  written-place a i =
      cond_both (goes (statement script a i)) (Landed (message a i Go)) (cond (comes (statement script a i)) (Landed (message a i Back)) (Issued a i)) (λ d. deed_place d ≡ (a, i)) (λ _. refl)
      (λ _. cond_both (comes (statement script a i)) (Landed (message a i Back)) (Issued a i) (λ d. deed_place d ≡ (a, i)) (λ _. refl) (λ _. refl))

  same-statement : (a i b j : ℕ) → write_deed script b j ≡ write_deed script a i → (b ≡ a) × (j ≡ i)
  same-statement a i b j e =
      let p : (b, j) ≡ (a, i) = sym (written-place b j) ∙ ap deed_place e ∙ written-place a i in
      (ap (λ (q : ℕ × ℕ). q.0) p, ap (λ (q : ℕ × ℕ). q.1) p)

  -- what was written was issued
  written-issued : (J : List Event) (a i t x : ℕ) → Atomic script rules J → is_written script a i t x ≡ true → happened (write_deed script a i) J ≡ true → happened (Issued a i) J ≡ true
  unfolding needs
  written-issued J a i t x h w d =
      ⊎_elim
      (λ (g : (goes (statement script a i) ≡ true) × (write_deed script a i ≡ Landed (message a i Go))). (closed script rules (Landed (message a i Go)) J h (subst (λ y. happened y J ≡ true) g.1 d)).0)
      (λ (r : ((comes (statement script a i) ≡ true) × (write_deed script a i ≡ Landed (message a i Back))) ⊎ ((is_store (statement script a i) ≡ true) × (write_deed script a i ≡ Issued a i))).
      ⊎_elim
      (λ (c : (comes (statement script a i) ≡ true) × (write_deed script a i ≡ Landed (message a i Back))).
      let all = closed script rules (Landed (message a i Back)) J h (subst (λ y. happened y J ≡ true) c.1 d) in
      (last-of script rules (λ y. happened y J ≡ true) (only_if (has_completion script rules a i) (Begun (message a i Go) ∷ Ended (message a i Go) ∷ [])) (Landed (message a i Go) ∷ to_land script rules a i) all.1).1.0)
      (λ (k : (is_store (statement script a i) ≡ true) × (write_deed script a i ≡ Issued a i)). subst (λ y. happened y J ≡ true) k.1 d)
      r)
      (written-by a i t x w)

  -- no statement that writes is a fence, or is passed
  writes-no_pass : (a i t x : ℕ) → is_written script a i t x ≡ true → (is_passed (statement script a i) ≡ false) × (is_gfence (statement script a i) ≡ false)
  writes-no_pass a i t x w =
      let s = statement script a i in
      ⊎_elim
      (λ (g : (goes s ≡ true) × (write_deed script a i ≡ Landed (message a i Go))). data-not_passed s (goes-facts s g.0).3)
      (λ (r : ((comes s ≡ true) × (write_deed script a i ≡ Landed (message a i Back))) ⊎ ((is_store s ≡ true) × (write_deed script a i ≡ Issued a i))).
      ⊎_elim
      (λ (c : (comes s ≡ true) × (write_deed script a i ≡ Landed (message a i Back))). data-not_passed s (comes-facts s c.0).3)
      (λ (k : (is_store s ≡ true) × (write_deed script a i ≡ Issued a i)). let f = store-facts s k.0 in (f.4, f.3))
      r)
      (written-by a i t x w)

  -- the data of an operation land by its key_of
  landed-go : (J : List Event) (a i : ℕ) → goes (statement script a i) ≡ true → data_landed script rules J a i ≡ true → happened (Landed (message a i Go)) J ≡ true
  landed-go J a i g d = subst (λ b. happened (Landed (message a i (cond b Back Go))) J ≡ true) (goes-facts (statement script a i) g).2 d

  landed-back : (J : List Event) (a i : ℕ) → comes (statement script a i) ≡ true → data_landed script rules J a i ≡ true → happened (Landed (message a i Back)) J ≡ true
  landed-back J a i c d = subst (λ b. happened (Landed (message a i (cond b Back Go))) J ≡ true) (comes-facts (statement script a i) c).2 d

  -- what is over isn't written now
  over-new : (J : List Event) (e : Event) (a i t x : ℕ) → Keeps script rules J e → is_written script a i t x ≡ true → write_deed script a i ≡ key_of e → IsOver script rules J a i → ⊥
  unfolding needs
  over-new J e a i t x k w is over =
      let s = statement script a i in
      let once : happened (write_deed script a i) J ≡ false = subst (λ d. happened d J ≡ false) (sym is) k.once in
      let after = λ (d : EventKey) (at : write_deed script a i ≡ d). subst (λ d. AllByRecursion (λ y. happened y J ≡ true) (needs script rules d)) (sym is ∙ at) (list_all-each (λ y. happened y J) (needs script rules (key_of e)) k.after) in
      ⊎_elim
      (λ (g : (goes s ≡ true) × (write_deed script a i ≡ Landed (message a i Go))).
      both_ways _ (subst (λ d. happened d J ≡ false) g.1 once) (landed-go J a i g.0 (over.1 (goes-facts s g.0).3 (after (Landed (message a i Go)) g.1).0)))
      (λ (r : ((comes s ≡ true) × (write_deed script a i ≡ Landed (message a i Back))) ⊎ ((is_store s ≡ true) × (write_deed script a i ≡ Issued a i))).
      ⊎_elim
      (λ (c : (comes s ≡ true) × (write_deed script a i ≡ Landed (message a i Back))).
      let all = after (Landed (message a i Back)) c.1 in
      let issued = (last-of script rules (λ y. happened y J ≡ true) (only_if (has_completion script rules a i) (Begun (message a i Go) ∷ Ended (message a i Go) ∷ [])) (Landed (message a i Go) ∷ to_land script rules a i) all.1).1.0 in
      both_ways _ (subst (λ d. happened d J ≡ false) c.1 once) (landed-back J a i c.0 (over.1 (comes-facts s c.0).3 issued)))
      (λ (q : (is_store s ≡ true) × (write_deed script a i ≡ Issued a i)).
      let turn = issue-turn script rules e J a i k (sym q.1 ∙ is) in
      let l = over.0 in
      absurd (omega arith))
      r)
      (written-by a i t x w)

  module _ (M : ℕ → Memories) (st : AreStages script rules M) where
    -- what is over was written
    pub over-written : (J : List Event) (b j t x : ℕ) → Atomic script rules J → Has script b j → is_written script b j t x ≡ true → IsOver script rules J b j → happened (write_deed script b j) J ≡ true
    over-written J b j t x h has w over =
        let s = statement script b j in
        ⊎_elim
        (λ (issued : happened (Issued b j) J ≡ true).
        ⊎_elim
        (λ (g : (goes s ≡ true) × (write_deed script b j ≡ Landed (message b j Go))). subst (λ d. happened d J ≡ true) (sym g.1) (landed-go J b j g.0 (over.1 (goes-facts s g.0).3 issued)))
        (λ (r : ((comes s ≡ true) × (write_deed script b j ≡ Landed (message b j Back))) ⊎ ((is_store s ≡ true) × (write_deed script b j ≡ Issued b j))).
        ⊎_elim
        (λ (c : (comes s ≡ true) × (write_deed script b j ≡ Landed (message b j Back))). subst (λ d. happened d J ≡ true) (sym c.1) (landed-back J b j c.0 (over.1 (comes-facts s c.0).3 issued)))
        (λ (q : (is_store s ≡ true) × (write_deed script b j ≡ Issued b j)). subst (λ d. happened d J ≡ true) (sym q.1) issued)
        r)
        (written-by b j t x w))
        (λ (y : (happened (Refused b j) J ≡ true) ⊎ (happened (Passed b j) J ≡ true)).
        ⊎_elim
        (λ (refused : happened (Refused b j) J ≡ true). let k = kind script rules (Refused b j) J h refused in absurd (let e : None ≡ Some k.1 = sym (st.none_refused k.0 b j has) ∙ k.2 in cc))
        (λ (passed : happened (Passed b j) J ≡ true). absurd (both_ways _ (writes-no_pass b j t x w).0 (kind script rules (Passed b j) J h passed)))
        y)
        (taken script rules J h b j over.0)

    memory_of : List Event → ℕ → ℕ → ℕ
    memory_of J = (values script rules J).memory

    -- ---- stages

    -- what no statement writes stays, over some epochs
    same-through : (t x lo hi : ℕ) → lo ≤ hi → ((a i : ℕ) → Has script a i → is_written script a i t x ≡ true → lo ≤ epoch script a i → epoch script a i < hi → ⊥) → M hi t x ≡ M lo t x
    same-through t x lo zero l h = let e : 0 ≡ lo = omega arith in ap (λ k. M k t x) e
    same-through t x lo (suc hi) l h =
        ⊎_elim
        (λ (lt : lo < suc hi).
        st.stays hi t x (λ a i has e. false_from_ne_true _ (λ w. h a i has w (omega arith) (omega arith)))
        ∙ same-through t x lo hi (omega arith) (λ a i has w low high. h a i has w low (omega arith)))
        (λ (ge : suc hi ≤ lo). let e : suc hi ≡ lo = omega arith in ap (λ k. M k t x) e)
        (cases_lt lo (suc hi))

    -- a byte that no statement has written
    record Untouched (J : List Event) (t x : ℕ) : Type 0 where
      is_zero : memory_of J t x ≡ 0
      none : (b j : ℕ) → Has script b j → is_written script b j t x ≡ true → happened (write_deed script b j) J ≡ false

    -- and one that some have, of which a.i is of the last epoch
    record Touched (J : List Event) (t x : ℕ) : Type 0 where
      a : ℕ
      i : ℕ
      has : Has script a i
      writes : is_written script a i t x ≡ true
      was : happened (write_deed script a i) J ≡ true
      last : (b j : ℕ) → Has script b j → is_written script b j t x ≡ true → happened (write_deed script b j) J ≡ true → epoch script b j ≤ epoch script a i
      byte : memory_of J t x ≡ M (suc (epoch script a i)) t x

    Known : List Event → ℕ → ℕ → Type 0
    Known J t x = Untouched J t x ⊎ Touched J t x

    staged-known : (J : List Event) (k t x : ℕ) → Known J t x → IsAtStage script rules J k t x → memory_of J t x ≡ M k t x
    unfolding Known
    staged-known J k t x known staged =
        ⊎_elim
        (λ (u : Untouched J t x).
        u.is_zero ∙ sym (st.start t x)
        ∙ sym (same-through t x 0 k (omega arith) (λ a i has w low high. both_ways _ (u.none a i has w) (staged a i has w ∙ lt-ltb (epoch script a i) k high))))
        (λ (q : Touched J t x).
        let below : epoch script q.a q.i < k = ltb-true (epoch script q.a q.i) k (sym (staged q.a q.i q.has q.writes) ∙ q.was) in
        q.byte
        ∙ sym (same-through t x (suc (epoch script q.a q.i)) k below (λ b j has w low high. let most = q.last b j has w (staged b j has w ∙ lt-ltb (epoch script b j) k high) in absurd (omega arith))))
        known

    -- ---- one event more

    -- it leaves a byte, and no statement that writes the byte is written by it
    record Same (e : Event) (J : List Event) (t x : ℕ) : Type 0 where
      same : memory_of (e ∷ J) t x ≡ memory_of J t x
      other : (b j : ℕ) → Has script b j → is_written script b j t x ≡ true → write_deed script b j ≡ key_of e → ⊥

    -- or it writes the byte as a statement's epoch leaves it
    record New (e : Event) (J : List Event) (t x : ℕ) : Type 0 where
      a : ℕ
      i : ℕ
      has : Has script a i
      writes : is_written script a i t x ≡ true
      is : write_deed script a i ≡ key_of e
      byte : memory_of (e ∷ J) t x ≡ M (suc (epoch script a i)) t x

    -- what is written now is of no earlier epoch than what was written
    in-order : (J : List Event) (e : Event) (a i b j t x : ℕ) → Atomic script rules (e ∷ J) → Has script a i → is_written script a i t x ≡ true → write_deed script a i ≡ key_of e → is_written script b j t x ≡ true → happened (write_deed script b j) J ≡ true → epoch script b j ≤ epoch script a i
    in-order J e a i b j t x h has w is w' d =
        ⊎_elim
        (λ (lt : epoch script a i < epoch script b j).
        let hJ = Atomic-tail script rules e J h in
        let come : j < next J b = behind script rules (Issued b j) J hJ (written-issued J b j t x hJ w' d) in
        absurd (over-new J e a i t x (Atomic-head script rules e J h) w is (epochs-wait script rules J hJ b j a i (omega arith) has (writes-no_pass a i t x w).1 lt)))
        (λ (ge : epoch script b j ≤ epoch script a i). ge)
        (cases_lt (epoch script a i) (epoch script b j))

    known-step : (e : Event) (J : List Event) (t x : ℕ) → Atomic script rules (e ∷ J) → Known J t x → Same e J t x ⊎ New e J t x → Known (e ∷ J) t x
    unfolding Known
    known-step e J t x h known out =
        ⊎_elim
        (λ (s : Same e J t x).
        ⊎_elim
        (λ (u : Untouched J t x).
        inl (record {
          is_zero = s.same ∙ u.is_zero;
          none = λ b j has w. false_from_ne_true _ (λ d. ⊎_elim (λ (x : write_deed script b j ≡ key_of e). s.other b j has w x) (λ (x : happened (write_deed script b j) J ≡ true). both_ways _ (u.none b j has w) x) (happened-cases (write_deed script b j) e J d));
        }))
        (λ (q : Touched J t x).
        inr (record {
          a = q.a;
          i = q.i;
          has = q.has;
          writes = q.writes;
          was = happened-later (write_deed script q.a q.i) e J q.was;
          last = λ b j has w d. ⊎_elim (λ (x : write_deed script b j ≡ key_of e). absurd (s.other b j has w x)) (λ (x : happened (write_deed script b j) J ≡ true). q.last b j has w x) (happened-cases (write_deed script b j) e J d);
          byte = s.same ∙ q.byte;
        }))
        known)
        (λ (n : New e J t x).
        inr (record {
          a = n.a;
          i = n.i;
          has = n.has;
          writes = n.writes;
          was = subst (λ d. happened d (e ∷ J) ≡ true) (sym n.is) (happened-head e J);
          last = λ b j has w d.
              ⊎_elim
              (λ (x : write_deed script b j ≡ key_of e). let p = same-statement n.a n.i b j (x ∙ sym n.is) in let q : epoch script b j ≡ epoch script n.a n.i = λ k. epoch script (p.0 k) (p.1 k) in let r : epoch script b j ≤ epoch script n.a n.i = omega arith in r)
              (λ (y : happened (write_deed script b j) J ≡ true). in-order J e n.a n.i b j t x h n.has n.writes n.is w y)
              (happened-cases (write_deed script b j) e J d);
          byte = n.byte;
        }))
        out

    -- ---- what operations carry

    -- the leg by which the data of a statement go
    IsDataLeg : Statement → Leg → Type 0
    IsDataLeg s Go = goes s ≡ true
    IsDataLeg s Back = comes s ≡ true
    IsDataLeg s Note = ⊥
    IsDataLeg s Echo = ⊥
    IsDataLeg s (Join d) = ⊥

    leg-data : (s : Statement) (leg : Leg) → IsDataLeg s leg → is_data s ≡ true
    unfolding IsDataLeg
    leg-data s Go h = (goes-facts s h).3
    leg-data s Back h = (comes-facts s h).3
    leg-data s Note h = absurd h
    leg-data s Echo h = absurd h
    leg-data s (Join d) h = absurd h

    leg-landed : (J : List Event) (a i : ℕ) (leg : Leg) → IsDataLeg (statement script a i) leg → data_landed script rules J a i ≡ true → happened (Landed (message a i leg)) J ≡ true
    unfolding IsDataLeg
    leg-landed J a i Go h d = landed-go J a i h d
    leg-landed J a i Back h d = landed-back J a i h d
    leg-landed J a i Note h d = absurd h
    leg-landed J a i Echo h d = absurd h
    leg-landed J a i (Join x) h d = absurd h

    -- a message that was copied carries what its statement's epoch leaves at both of its sides
    Carries : List Event → Type 0
    Carries J = (a i : ℕ) (leg : Leg) → IsDataLeg (statement script a i) leg → happened (Copied (message a i leg)) J ≡ true → carried script rules J (message a i leg) ≡ gathered (M (suc (epoch script a i))) (writes_to script a i) (writes_at script a i)

    -- where a message is copied, the bytes that it reads are at the stage after its epoch
    copy-staged : (J : List Event) (a i : ℕ) (leg : Leg) (y : ℕ) → Atomic script rules J → Has script a i → IsDataLeg (statement script a i) leg → covers (reads_at script a i) y ≡ true → happened (Issued a i) J ≡ true → happened (Copied (message a i leg)) J ≡ false → IsAtStage script rules J (suc (epoch script a i)) (reads_from script a i) y
    copy-staged J a i leg y h has data_leg covered issued new = λ b j hasb w.
        let t = reads_from script a i in
        let come : i < next J a = behind script rules (Issued a i) J h issued in
        let ok = writes-no_pass b j t y w in
        ⊎_elim
        (λ (same : epoch script b j ≡ epoch script a i).
        let f = st.apart a i b j y has hasb (leg-data (statement script a i) leg data_leg) covered w same in
        let nn = ap (next J) f.1 in
        let low = f.2 in
        let gone : j < next J b = omega arith in
        over-written J b j t y h hasb w (gone, λ moved _. absurd (both_ways _ (store-facts (statement script b j) f.0).2 moved))
        ∙ sym (lt-ltb (epoch script b j) (suc (epoch script a i)) (omega arith)))
        (λ (r : (epoch script b j < epoch script a i) ⊎ (epoch script a i < epoch script b j)).
        ⊎_elim
        (λ (lt : epoch script b j < epoch script a i).
        over-written J b j t y h hasb w (epochs-wait script rules J h a i b j (omega arith) hasb ok.1 lt)
        ∙ sym (lt-ltb (epoch script b j) (suc (epoch script a i)) (omega arith)))
        (λ (gt : epoch script a i < epoch script b j).
        false_from_ne_true _ (λ d.
        let comeb : j < next J b = behind script rules (Issued b j) J h (written-issued J b j t y h w d) in
        let over = epochs-wait script rules J h b j a i (omega arith) has (data-not_passed (statement script a i) (leg-data (statement script a i) leg data_leg)).1 gt in
        let landed = leg-landed J a i leg data_leg (over.1 (leg-data (statement script a i) leg data_leg) issued) in
        both_ways _ new (landed-copied script rules J (message a i leg) h landed))
        ∙ sym (le-ltb (epoch script b j) (suc (epoch script a i)) (let q : suc (epoch script a i) ≤ epoch script b j = omega arith in q)))
        r)
        (cases_order (epoch script b j) (epoch script a i))

    -- so what it reads is as its epoch leaves it
    read-now : (J : List Event) (a i : ℕ) (leg : Leg) → Atomic script rules J → ((t x : ℕ) → Known J t x) → Has script a i → IsDataLeg (statement script a i) leg → happened (Issued a i) J ≡ true → happened (Copied (message a i leg)) J ≡ false →
        gathered (memory_of J) (reads_from script a i) (reads_at script a i) ≡ gathered (M (suc (epoch script a i))) (writes_to script a i) (writes_at script a i)
    read-now J a i leg h known has data_leg issued new =
        gathered-agree (memory_of J) (M (suc (epoch script a i))) (reads_from script a i) (reads_from script a i) (reads_at script a i)
        (λ y c. staged-known J (suc (epoch script a i)) (reads_from script a i) y (known (reads_from script a i) y) (copy-staged J a i leg y h has data_leg c issued new))
        ∙ st.carried a i has (leg-data (statement script a i) leg data_leg)

    -- what a Copy takes is what its statement reads
    source-is : (J : List Event) (a i : ℕ) (leg : Leg) → IsDataLeg (statement script a i) leg → source_by script rules (values script rules J) (message a i leg) leg (statement script a i) ≡ gathered (memory_of J) (reads_from script a i) (reads_at script a i)
    unfolding IsDataLeg memory_of
    source-is J a i Go g =
        let s = statement script a i in
        let f = goes-facts s g in
        let mem = (values script rules J).memory in
        cond-false (has_back s) [] (gathered mem a (at_origin script rules a i)) f.2
        ∙ ap (λ b. gathered mem (cond b (target script a i) a) (spans script (target script a i) (cond b (target_pieces s) (origin_pieces s)))) (sym f.4)
    source-is J a i Back c =
        let s = statement script a i in
        let f = comes-facts s c in
        let mem = (values script rules J).memory in
        cond-false (is_rmw s) ((values script rules J).bytes (message a i Back)) (gathered mem (target script a i) (at_target script rules a i)) f.1
        ∙ ap (λ b. gathered mem (cond b (target script a i) a) (spans script (target script a i) (cond b (target_pieces s) (origin_pieces s)))) (sym c)
    source-is J a i Note h = absurd h
    source-is J a i Echo h = absurd h
    source-is J a i (Join d) h = absurd h

    copy-is : (e : Event) (m : MsgName) → Copied m ≡ key_of e → e ≡ Copy m
    copy-is (Copy n) m h = let x : n ≡ m = cc in ap Copy x
    copy-is (Issue b k) m h = absurd (cc)
    copy-is (Refuse b k refusal_of) m h = absurd (cc)
    copy-is (Enter b k) m h = absurd (cc)
    copy-is (Pass b k) m h = absurd (cc)
    copy-is (Head n) m h = absurd (cc)
    copy-is (Land n) m h = absurd (cc)
    copy-is (Begin n t w) m h = absurd (cc)
    copy-is (End n t w) m h = absurd (cc)

    copied-now : (J : List Event) (m : MsgName) → carried script rules (Copy m ∷ J) m ≡ source_by script rules (values script rules J) m m.leg (statement script m.origin m.statement)
    unfolding values
    copied-now J m = cond-true (name_eq m m) _ ((values script rules J).bytes m) (name_eq-refl m)

    -- a Copy comes after the Issue
    copy-issued : (J : List Event) (a i : ℕ) (leg : Leg) → IsDataLeg (statement script a i) leg → Keeps script rules J (Copy (message a i leg)) → happened (Issued a i) J ≡ true
    unfolding IsDataLeg needs
    copy-issued J a i Go g k = (list_all-each (λ y. happened y J) (needs script rules (Copied (message a i Go))) k.after).0
    copy-issued J a i Back c k =
        let all = list_all-each (λ y. happened y J) (needs script rules (Copied (message a i Back))) k.after in
        (last-of script rules (λ y. happened y J ≡ true) (only_if (has_completion script rules a i) (Begun (message a i Go) ∷ Ended (message a i Go) ∷ [])) (Landed (message a i Go) ∷ to_land script rules a i) all).1.0
    copy-issued J a i Note h k = absurd h
    copy-issued J a i Echo h k = absurd h
    copy-issued J a i (Join d) h k = absurd h

    carries-step : (e : Event) (J : List Event) → Atomic script rules (e ∷ J) → ((t x : ℕ) → Known J t x) → Carries J → Carries (e ∷ J)
    unfolding Carries
    carries-step e J h known old = λ a i leg data_leg d.
        let m = message a i leg in
        ⊎_elim
        (λ (now : Copied m ≡ key_of e).
        let same = copy-is e m now in
        let h' = subst (λ f. Atomic script rules (f ∷ J)) same h in
        let k = Atomic-head script rules (Copy m) J h' in
        let has = has-of script rules a i (and_parts _ _ k.there).0 in
        ap (λ f. carried script rules (f ∷ J) m) same
        ∙ copied-now J m
        ∙ source-is J a i leg data_leg
        ∙ read-now J a i leg (Atomic-tail script rules (Copy m) J h') known has data_leg (copy-issued J a i leg data_leg k) k.once)
        (λ (before : happened (Copied m) J ≡ true). stays script rules e J m h before ∙ old a i leg data_leg before)
        (happened-cases (Copied m) e J d)

    -- ---- what each event writes

    memory-step : (e : Event) (J : List Event) (t x : ℕ) → memory_of (e ∷ J) t x ≡ cond (t == writer script rules e) (byte_after (writes script rules (values script rules J) e) x (memory_of J t x)) (memory_of J t x)
    unfolding values memory_of
    memory-step e J t x = refl

    silent : (e : Event) (J : List Event) (t x : ℕ) → writes script rules (values script rules J) e ≡ [] → ((b j : ℕ) → Has script b j → is_written script b j t x ≡ true → write_deed script b j ≡ key_of e → ⊥) → Same e J t x ⊎ New e J t x
    unfolding byte_after
    silent e J t x none other =
        inl (record {
          same = memory-step e J t x ∙ ap (λ ws. cond (t == writer script rules e) (byte_after ws x (memory_of J t x)) (memory_of J t x)) none ∙ cond_both (t == writer script rules e) (memory_of J t x) (memory_of J t x) (λ y. y ≡ memory_of J t x) (λ _. refl) (λ _. refl);
          other = other;
        })

    loud : (e : Event) (J : List Event) (t x a i : ℕ) → Has script a i → write_deed script a i ≡ key_of e → writer script rules e ≡ writes_to script a i → writes script rules (values script rules J) e ≡ scattered (writes_at script a i) (gathered (M (suc (epoch script a i))) (writes_to script a i) (writes_at script a i)) → Same e J t x ⊎ New e J t x
    loud e J t x a i has is at what =
        let u = writes_to script a i in
        let new = M (suc (epoch script a i)) in
        let old = memory_of J t x in
        let step : memory_of (e ∷ J) t x ≡ cond (t == u) (cond (covers (writes_at script a i) x) (new u x) old) old =
        memory-step e J t x
        ∙ ap (λ v. cond (t == v) (byte_after (writes script rules (values script rules J) e) x old) old) at
        ∙ ap (λ ws. cond (t == u) (byte_after ws x old) old) what
        ∙ ap (λ y. cond (t == u) y old) (scatter-gathered new u (writes_at script a i) x old) in
        ⊎_elim
        (λ (w : is_written script a i t x ≡ true).
        let parts = and_parts (t == u) (covers (writes_at script a i) x) w in
        inr (record {
          a = a;
          i = i;
          has = has;
          writes = w;
          is = is;
          byte = step ∙ cond-true (t == u) _ old parts.0 ∙ cond-true (covers (writes_at script a i) x) (new u x) old parts.1 ∙ ap (λ v. new v x) (sym (eqb-true t u parts.0));
        }))
        (λ (w : is_written script a i t x ≡ false).
        inl (record {
          same = step ∙ not-both (t == u) (covers (writes_at script a i) x) (new u x) old w;
          other = λ b j hasb wb same. let p = same-statement a i b j (same ∙ sym is) in both_ways _ w (subst (λ y. is_written script y i t x ≡ true) p.0 (subst (λ y. is_written script b y t x ≡ true) p.1 wb));
        }))
        (cases_Bool (is_written script a i t x))
      where
        not-both : (p q : Bool) (y old : ℕ) → (p && q) ≡ false → cond p (cond q y old) old ≡ old
        not-both true true y old f = absurd (false≢true (sym f))
        not-both true false y old f = refl
        not-both false q y old f = refl

    -- only a Land or an Issue can be what a statement writes by
    no-deed : (d : EventKey) → ((m : MsgName) → Landed m ≡ d → ⊥) → ((a i : ℕ) → Issued a i ≡ d → ⊥) → (t x b j : ℕ) → Has script b j → is_written script b j t x ≡ true → write_deed script b j ≡ d → ⊥
    no-deed d land issue t x b j has w is =
        ⊎_elim
        (λ (g : (goes (statement script b j) ≡ true) × (write_deed script b j ≡ Landed (message b j Go))). land (message b j Go) (sym g.1 ∙ is))
        (λ (r : ((comes (statement script b j) ≡ true) × (write_deed script b j ≡ Landed (message b j Back))) ⊎ ((is_store (statement script b j) ≡ true) × (write_deed script b j ≡ Issued b j))).
        ⊎_elim
        (λ (c : (comes (statement script b j) ≡ true) × (write_deed script b j ≡ Landed (message b j Back))). land (message b j Back) (sym c.1 ∙ is))
        (λ (k : (is_store (statement script b j) ≡ true) × (write_deed script b j ≡ Issued b j)). issue b j (sym k.1 ∙ is))
        r)
        (written-by b j t x w)

    -- an issue of another kind than a store writes nothing
    issue-other : (a i t x : ℕ) → is_store (statement script a i) ≡ false → (b j : ℕ) → Has script b j → is_written script b j t x ≡ true → write_deed script b j ≡ Issued a i → ⊥
    issue-other a i t x not b j has w is =
        ⊎_elim
        (λ (g : (goes (statement script b j) ≡ true) × (write_deed script b j ≡ Landed (message b j Go))). let e = sym g.1 ∙ is in absurd (cc))
        (λ (r : ((comes (statement script b j) ≡ true) × (write_deed script b j ≡ Landed (message b j Back))) ⊎ ((is_store (statement script b j) ≡ true) × (write_deed script b j ≡ Issued b j))).
        ⊎_elim
        (λ (c : (comes (statement script b j) ≡ true) × (write_deed script b j ≡ Landed (message b j Back))). let e = sym c.1 ∙ is in absurd (cc))
        (λ (k : (is_store (statement script b j) ≡ true) × (write_deed script b j ≡ Issued b j)).
        let e = sym k.1 ∙ is in
        let p : b ≡ a = cc in
        let q : j ≡ i = cc in
        both_ways _ not (subst (λ y. is_store (statement script y i) ≡ true) p (subst (λ y. is_store (statement script b y) ≡ true) q k.0)))
        r)
        (written-by b j t x w)

    -- nor does a landing by another leg than that of the data
    land-other : (a i : ℕ) (leg : Leg) (t x : ℕ) → (IsDataLeg (statement script a i) leg → ⊥) → (b j : ℕ) → Has script b j → is_written script b j t x ≡ true → write_deed script b j ≡ Landed (message a i leg) → ⊥
    unfolding IsDataLeg
    land-other a i leg t x not b j has w is =
        ⊎_elim
        (λ (g : (goes (statement script b j) ≡ true) × (write_deed script b j ≡ Landed (message b j Go))).
        let e = sym g.1 ∙ is in
        let names : message b j Go ≡ message a i leg = cc in
        let p = ap (λ (m : MsgName). m.origin) names in
        let q = ap (λ (m : MsgName). m.statement) names in
        let l = ap (λ (m : MsgName). m.leg) names in
        not (subst (IsDataLeg (statement script a i)) l (subst (λ y. goes (statement script y i) ≡ true) p (subst (λ y. goes (statement script b y) ≡ true) q g.0))))
        (λ (r : ((comes (statement script b j) ≡ true) × (write_deed script b j ≡ Landed (message b j Back))) ⊎ ((is_store (statement script b j) ≡ true) × (write_deed script b j ≡ Issued b j))).
        ⊎_elim
        (λ (c : (comes (statement script b j) ≡ true) × (write_deed script b j ≡ Landed (message b j Back))).
        let e = sym c.1 ∙ is in
        let names : message b j Back ≡ message a i leg = cc in
        let p = ap (λ (m : MsgName). m.origin) names in
        let q = ap (λ (m : MsgName). m.statement) names in
        let l = ap (λ (m : MsgName). m.leg) names in
        not (subst (IsDataLeg (statement script a i)) l (subst (λ y. comes (statement script y i) ≡ true) p (subst (λ y. comes (statement script b y) ≡ true) q c.0))))
        (λ (k : (is_store (statement script b j) ≡ true) × (write_deed script b j ≡ Issued b j)). let e = sym k.1 ∙ is in absurd (cc))
        r)
        (written-by b j t x w)

    -- ---- each event

    store-to : (a i : ℕ) → is_store (statement script a i) ≡ true → writes_to script a i ≡ a
    store-to a i k = cond-false (goes (statement script a i)) (target script a i) a (store-facts (statement script a i) k).0

    store-at : (a i at : ℕ) (bytes : List ℕ) → statement script a i ≡ Store at bytes → writes_at script a i ≡ one_span at (length bytes)
    unfolding address
    store-at a i at bytes e = ap (λ s. spans script (target script a i) (written_pieces s)) e

    scatter-one : (at : ℕ) (bytes : List ℕ) → scattered (one_span at (length bytes)) bytes ≡ (at, bytes) ∷ []
    unfolding scattered
    scatter-one at bytes = ap (λ xs. (at, xs) ∷ []) (take-length bytes)

    stored-what : (a i at : ℕ) (bytes : List ℕ) → Has script a i → statement script a i ≡ Store at bytes → store_writes script rules (statement script a i) ≡ scattered (writes_at script a i) (gathered (M (suc (epoch script a i))) (writes_to script a i) (writes_at script a i))
    stored-what a i at bytes has e =
        let new = M (suc (epoch script a i)) in
        ap (store_writes script rules) e
        ∙ sym (scatter-one at bytes)
        ∙ ap (scattered (one_span at (length bytes))) (sym (st.stored a i at bytes has e))
        ∙ ap (λ u. scattered (one_span at (length bytes)) (gathered new u (one_span at (length bytes)))) (sym (store-to a i (ap is_store e)))
        ∙ ap (λ ps. scattered ps (gathered new (writes_to script a i) ps)) (sym (store-at a i at bytes e))

    issued : (J : List Event) (t x a i : ℕ) → Has script a i → Same (Issue a i) J t x ⊎ New (Issue a i) J t x
    issued J t x a i has =
        ⊎_elim
        (λ (k : is_store (statement script a i) ≡ true).
        let s = store-is (statement script a i) k in
        loud (Issue a i) J t x a i has (store-deed a i k) (sym (store-to a i k)) (stored-what a i s.0 s.1 has s.2))
        (λ (k : is_store (statement script a i) ≡ false). silent (Issue a i) J t x (not-store script rules (statement script a i) k) (issue-other a i t x k))
        (cases_Bool (is_store (statement script a i)))

    answer-am : (a i : ℕ) → answers script rules a i ≡ true → is_am (statement script a i) ≡ true
    unfolding has_completion
    answer-am a i h = (and_parts (is_am (statement script a i)) _ (answer-completion script rules a i h)).0

    landed : (J : List Event) (t x a i : ℕ) (leg : Leg) → Keeps script rules J (Land (message a i leg)) → Atomic script rules J → Carries J → Same (Land (message a i leg)) J t x ⊎ New (Land (message a i leg)) J t x
    unfolding IsDataLeg Carries needs
    landed J t x a i Go k h carries =
        let s = statement script a i in
        let v = values script rules J in
        let m = message a i Go in
        let both = and_parts _ _ k.there in
        let has = has-of script rules a i both.0 in
        let copied = (list_all-each (λ y. happened y J) (needs script rules (Landed m)) k.after).1.0 in
        let word = number_of (gathered v.memory (target script a i) (at_target script rules a i)) in
        let at = at_target script rules a i in
        ⊎_elim
        (λ (g : goes s ≡ true).
        let f = goes-facts s g in
        let to : target script a i ≡ writes_to script a i = sym (cond-true (goes s) (target script a i) a g) in
        let places : at ≡ writes_at script a i = ap (spans script (target script a i)) (sym (cond-true (goes s) (target_pieces s) _ g)) in
        let what : writes script rules v (Land m) ≡ scattered at (v.bytes m) =
        cond-false (is_am s) _ _ f.0 ∙ cond-false (is_rmw s) _ _ f.1 ∙ cond-false (has_back s) _ _ f.2 in
        loud (Land m) J t x a i has (goes-deed a i g) to (what ∙ ap (scattered at) (carries a i Go g copied) ∙ ap (λ ps. scattered ps (gathered (M (suc (epoch script a i))) (writes_to script a i) (writes_at script a i))) places))
        (λ (c : comes s ≡ true).
        let f = comes-facts s c in
        silent (Land m) J t x
        (cond-false (is_am s) _ _ f.4 ∙ cond-false (is_rmw s) _ _ f.1 ∙ cond-true (has_back s) [] _ f.2)
        (land-other a i Go t x (λ g. both_ways _ f.0 g)))
        (data-cases s both.1 (st.only_moves a i has))
    landed J t x a i Back k h carries =
        let s = statement script a i in
        let v = values script rules J in
        let m = message a i Back in
        let both = and_parts _ _ k.there in
        let has = has-of script rules a i both.0 in
        let copied = (list_all-each (λ y. happened y J) (needs script rules (Landed m)) k.after).0 in
        let c = back-comes s both.1 (st.only_moves a i has) in
        let f = comes-facts s c in
        let to : a ≡ writes_to script a i = sym (cond-false (goes s) (target script a i) a f.0) in
        let places : at_origin script rules a i ≡ writes_at script a i = ap (spans script (target script a i)) (sym (cond-false (goes s) (target_pieces s) _ f.0 ∙ cond-true (comes s || is_store s) (origin_pieces s) [] (or-first (comes s) (is_store s) c))) in
        loud (Land m) J t x a i has (comes-deed a i c) to (ap (scattered (at_origin script rules a i)) (carries a i Back c copied) ∙ ap (λ ps. scattered ps (gathered (M (suc (epoch script a i))) (writes_to script a i) (writes_at script a i))) places)
      where
        or-first : (x y : Bool) → x ≡ true → (x || y) ≡ true
        or-first true y h = refl
        or-first false y h = absurd (false≢true h)
    landed J t x a i Note k h carries = silent (Land (message a i Note)) J t x refl (land-other a i Note t x (λ g. g))
    landed J t x a i Echo k h carries =
        let both = and_parts _ _ k.there in
        let has = has-of script rules a i both.0 in
        absurd (both_ways (is_am (statement script a i)) (or_parts (is_am (statement script a i)) (is_rmw (statement script a i)) (st.only_moves a i has)).0 (answer-am a i both.1))
    landed J t x a i (Join d) k h carries = silent (Land (message a i (Join d))) J t x refl (land-other a i (Join d) t x (λ g. g))

    outcome : (e : Event) (J : List Event) (t x : ℕ) → Atomic script rules (e ∷ J) → Carries J → Same e J t x ⊎ New e J t x
    outcome (Issue a i) J t x h carries = issued J t x a i (has-of script rules a i (and_parts _ _ (Atomic-head script rules (Issue a i) J h).there).0)
    outcome (Land m) J t x h carries = landed J t x m.origin m.statement m.leg (Atomic-head script rules (Land m) J h) (Atomic-tail script rules (Land m) J h) carries
    outcome (Refuse a i refusal_of) J t x h carries = silent (Refuse a i refusal_of) J t x refl (no-deed (Refused a i) (λ m q. absurd (cc)) (λ b j q. absurd (cc)) t x)
    outcome (Enter a i) J t x h carries = silent (Enter a i) J t x refl (no-deed (Entered a i) (λ m q. absurd (cc)) (λ b j q. absurd (cc)) t x)
    outcome (Pass a i) J t x h carries = silent (Pass a i) J t x refl (no-deed (Passed a i) (λ m q. absurd (cc)) (λ b j q. absurd (cc)) t x)
    outcome (Copy n) J t x h carries = silent (Copy n) J t x refl (no-deed (Copied n) (λ m q. absurd (cc)) (λ b j q. absurd (cc)) t x)
    outcome (Head n) J t x h carries = silent (Head n) J t x refl (no-deed (Headed n) (λ m q. absurd (cc)) (λ b j q. absurd (cc)) t x)
    outcome (Begin n u w) J t x h carries = silent (Begin n u w) J t x refl (no-deed (Begun n) (λ m q. absurd (cc)) (λ b j q. absurd (cc)) t x)
    outcome (End n u w) J t x h carries =
        let is = and_parts (has_message script rules n) (leg_eq n.leg Go && is_am (statement script n.origin n.statement)) (and_parts (has_message script rules n && (leg_eq n.leg Go && is_am (statement script n.origin n.statement))) _ (Atomic-head script rules (End n u w) J h).there).0 in
        let has = has-of script rules n.origin n.statement (and_parts (has_statement script rules n.origin n.statement) _ is.0).0 in
        let am = (and_parts (leg_eq n.leg Go) (is_am (statement script n.origin n.statement)) is.1).1 in
        absurd (both_ways (is_am (statement script n.origin n.statement)) (or_parts (is_am (statement script n.origin n.statement)) (is_rmw (statement script n.origin n.statement)) (st.only_moves n.origin n.statement has)).0 am)

    -- ---- all events

    all-known : (J : List Event) → Atomic script rules J → ((t x : ℕ) → Known J t x) × Carries J
    unfolding Known Carries values memory_of
    all-known [] h = (λ t x. inl (record { is_zero = refl; none = λ b j has w. happened-nil (write_deed script b j) }), λ a i leg data_leg d. absurd (both_ways _ (happened-nil (Copied (message a i leg))) d))
    all-known (e ∷ J) h =
        let old = all-known J (Atomic-tail script rules e J h) in
        (λ t x. known-step e J t x h (old.0 t x) (outcome e J t x h old.1), carries-step e J h old.0 old.1)

    pub staged-is : (J : List Event) (k t x : ℕ) → Atomic script rules J → IsAtStage script rules J k t x → (values script rules J).memory t x ≡ M k t x
    unfolding memory_of
    staged-is J k t x h staged = staged-known J k t x ((all-known J h).0 t x) staged

-- the laws, of every atomic journal
pub staged-are : HoldsOfAtomic BytesAreStages
staged-are script rules J h = λ M st k t x staged. staged-is script rules M st J k t x h staged

pub ends-are : HoldsOfAtomic EndsAreStages
ends-are script rules J h = λ M st n all below past t x.
    staged-is script rules M st J n t x h (λ a i has w.
    let l = below a i t x has w in
    let e = all a has.0 in
    over-written script rules M st J a i t x h has w (epochs-wait script rules J h a (length (statements script a)) a i (let p = past a has.0 in omega arith) has (writes-no_pass script rules a i t x w).1 (omega arith))
    ∙ sym (lt-ltb (epoch script a i) n l))
