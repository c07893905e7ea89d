-- What an acknowledgement makes of the data operations that are not done.
use Rattle.std.proofs.Common.{◌≡◌, ℕ, zero, suc, ◌+◌, ◌<◌, ◌==◌, Bool, true, false, cond, ◌&&◌, not, List, [], ◌∷◌, ◌++◌, length, Option, Some, None, refl, sym, ap, ◌∙◌, subst, ⊎_elim, arith}
use Rattle.std.specs.Prelude.{slice_get, is_some}
use Rattle.std.specs.List.{AllByRecursion, filter_map, cons_option}
use Rattle.std.proofs.lemmas.Bool.{cases_eq, eq-eqb, ne_eqb, and_from, and_left, and_right, and_parts, lt-ltb, ltb-true, not-true, false≢true, false_from_ne_true, both_ways}
use Rattle.std.proofs.lemmas.List.Elements.{filter_map-append}
use Rattle.lapi_base.specs.declared.script.Script.{Script}
use Rattle.lapi_base.specs.declared.rule.Rules.{Rules}
use Rattle.lapi_base.specs.declared.event.Event.{Event}
use Rattle.lapi_base.specs.declared.message.Leg.{Leg}
use Rattle.lapi_base.specs.declared.message.Leg.TheVariants.{Go, Back, Note, Echo, Join}
use Rattle.lapi_base.specs.declared.message.MsgName.{MsgName}
use Rattle.lapi_base.specs.declared.statement.Statement.{Statement}
use Rattle.lapi_base.specs.declared.statement.Statement.TheVariants as forms
use Rattle.lapi_base.specs.Record.Below.{below}
use Rattle.lapi_base.specs.Record.HeadSays.{back_head}
use Rattle.lapi_base.specs.Record.Names.{message, name_eq, leg_eq, happened, Copied}
use Rattle.lapi_base.specs.Record.Atomic.{Atomic}
use Rattle.lapi_base.specs.Record.Operations.{statements, statement, has_back, target, sender, receiver, from_by}
use Rattle.lapi_base.specs.Record.Packets.{head_by}
use Rattle.lapi_base.specs.Record.Wires.{numbered, is_of}
use Rattle.lapi_base.proofs.BelowLaws.{below-all, below-same, length-below-none, length-below-suc}
use Rattle.lapi_base.proofs.ListLaws.{get-some}
use Rattle.lapi_base.proofs.NameLaws.{name_eq-true}
use Rattle.lapi_laws.proofs.Backward.{there}
use Rattle.lapi_laws.proofs.Out.{numbered-copied}
use Rattle.lapi_link.specs.Sender.{SendingEnd, covered_tag, newly_acked}
use Rattle.lapi_link.specs.Sender as link
use Rattle.lapi_parts.proofs.CopiedCounts.{count_in}
use Rattle.lapi_window.specs.NumberSet.{is_covered}
use Rattle.lapi_window.specs.SendWindow.{sent_count}
use Rattle.lapi_window.specs.SendWindow as window
use Rattle.lapi_task.specs.Outgoing.{outgoing, tag_of}
use Rattle.lapi_task.specs.Sends.{message_tag, tag_at, HasTags}
use Rattle.lapi_task.specs.Unfinished.{times}
use Rattle.lapi_task.proofs.Acknowledging.TimesLaws.{times-append}

-- an option is this number
abbrev pub names : ℕ → Option ℕ → Bool
names i None = false
names i (Some k) = k == i

times-option : (i : ℕ) (o : Option ℕ) → times i (cons_option o []) ≡ cond (names i o) 1 0
times-option i None = refl
times-option i (Some k) = one (k == i)
  where
    one : (b : Bool) → length (cond b (k ∷ []) []) ≡ cond b 1 0
    one true = refl
    one false = refl

-- How often i is told of the numbers below n that pass.
times-told : (i n : ℕ) (p : ℕ → Bool) (f : ℕ → Option ℕ) → times i (filter_map f (below n p)) ≡ length (below n (λ k. p k && names i (f k)))
unfolding below
times-told i zero p f = refl
times-told i (suc n) p f =
    let old = times-told i n p f in
    elim (p n) as (λ b. p n ≡ b → times i (filter_map f (cond b (below n p ++ n ∷ []) (below n p))) ≡ length (below (suc n) (λ k. p k && names i (f k)))) [
      | true ↦ λ e.
          ap (times i) (filter_map-append f (below n p) (n ∷ []))
          ∙ times-append i (filter_map f (below n p)) (cons_option (f n) [])
          ∙ (λ k. old k + times-option i (f n) k)
          ∙ ap (λ b. length (below n (λ k. p k && names i (f k))) + cond (b && names i (f n)) 1 0) (sym e)
          ∙ sym (length-below-suc n (λ k. p k && names i (f k)))
      | false ↦ λ e.
          old
          ∙ (let q : length (below n (λ k. p k && names i (f k))) ≡ length (below n (λ k. p k && names i (f k))) + 0 = omega arith in q)
          ∙ ap (λ b. length (below n (λ k. p k && names i (f k))) + cond (b && names i (f n)) 1 0) (sym e)
          ∙ sym (length-below-suc n (λ k. p k && names i (f k)))
    ] refl

module _ (script : Script) (t : ℕ) where
  -- The tag of a message is its statement where nothing brings its data back.
  go-answered : (m : MsgName) (s : Statement) → has_back s ≡ is_some (back_head (head_by script m Go s))
  go-answered m (forms.Put target to from len tgt org cmpl) = refl
  go-answered m (forms.Get target from to len tgt org) = refl
  go-answered m (forms.Putv target to from tgt org cmpl) = refl
  go-answered m (forms.Getv target from to tgt org) = refl
  go-answered m (forms.Rmw target op at in1 in2 prev org) = refl
  go-answered m (forms.Am target handler header from len tgt org cmpl) = refl
  go-answered m _ = refl

  tag-go : (i : ℕ) → tag_of (outgoing script (message t i Go)) ≡ cond (not (has_back (statement script t i))) (Some i) None
  tag-go i = ap (λ b. cond (not b) (Some i) None) (sym (go-answered (message t i Go) (statement script t i)))

  -- A message that the task sends is this one exactly where its tag names it.
  names-is : (i : ℕ) (m : MsgName) → has_back (statement script t i) ≡ false → (m.leg ≡ Go → m.origin ≡ t) → names i (tag_of (outgoing script m)) ≡ name_eq (message t i Go) m
  unfolding name_eq
  names-is i m none own = by m.leg refl
    where
      apart : (leg : Leg) → m.leg ≡ leg → leg_eq leg Go ≡ false → leg_eq Go leg ≡ false → names i (tag_of (outgoing script m)) ≡ ((t == m.origin && i == m.statement) && leg_eq Go m.leg)
      apart leg e to from =
          ap (λ b. names i (cond (b && not (is_some (back_head (head_by script m m.leg (statement script m.origin m.statement))))) (Some m.statement) None)) (ap (λ l. leg_eq l Go) e ∙ to)
          ∙ sym (and_right (t == m.origin && i == m.statement) (leg_eq Go m.leg) (ap (leg_eq Go) e ∙ from))

      named : (o : ℕ) → o ≡ t → names i (tag_of (outgoing script (message o m.statement Go))) ≡ ((t == o && i == m.statement) && true)
      named o same =
          subst (λ a. names i (tag_of (outgoing script (message a m.statement Go))) ≡ ((t == a && i == m.statement) && true)) (sym same)
          (ap (names i) (tag-go m.statement)
          ∙ ⊎_elim
          (λ (here : m.statement ≡ i).
          ap (λ k. names i (cond (not (has_back (statement script t k))) (Some k) None)) here
          ∙ ap (λ b. names i (cond (not b) (Some i) None)) none
          ∙ eq-eqb i i refl
          ∙ sym (and_from _ true (and_from _ _ (eq-eqb t t refl) (eq-eqb i m.statement (sym here))) refl))
          (λ (elsewhere : m.statement ≡ i → ⊥).
          unnamed (has_back (statement script t m.statement)) elsewhere
          ∙ sym (and_left (t == t && i == m.statement) true (and_right (t == t) (i == m.statement) (ne_eqb i m.statement (λ e. elsewhere (sym e))))))
          (cases_eq m.statement i))
        where
          unnamed : (b : Bool) → (m.statement ≡ i → ⊥) → names i (cond (not b) (Some m.statement) None) ≡ false
          unnamed true away = refl
          unnamed false away = ne_eqb m.statement i away

      by : (leg : Leg) → m.leg ≡ leg → names i (tag_of (outgoing script m)) ≡ ((t == m.origin && i == m.statement) && leg_eq Go m.leg)
      by Go e =
          let same : m ≡ message m.origin m.statement Go = (λ k. record { origin = m.origin; statement = m.statement; leg = e k }) in
          ap (λ x. names i (tag_of (outgoing script x))) same ∙ named m.origin (own e) ∙ ap (λ l. (t == m.origin && i == m.statement) && leg_eq Go l) (sym e)
      by Back e = apart Back e refl refl
      by Note e = apart Note e refl refl
      by Echo e = apart Echo e refl refl
      by (Join d) e = apart (Join d) e refl refl

  -- where its data come back, no tag names it
  names-none : (i : ℕ) (m : MsgName) → has_back (statement script t i) ≡ true → (m.leg ≡ Go → m.origin ≡ t) → names i (tag_of (outgoing script m)) ≡ false
  names-none i m back own = by m.leg refl
    where
      apart : (leg : Leg) → m.leg ≡ leg → leg_eq leg Go ≡ false → names i (tag_of (outgoing script m)) ≡ false
      apart leg e to = ap (λ b. names i (cond (b && not (is_some (back_head (head_by script m m.leg (statement script m.origin m.statement))))) (Some m.statement) None)) (ap (λ l. leg_eq l Go) e ∙ to)

      unnamed : (b : Bool) (k : ℕ) → has_back (statement script t k) ≡ b → names i (cond (not b) (Some k) None) ≡ false
      unnamed true k e = refl
      unnamed false k e = ne_eqb k i (λ same. both_ways _ (sym (ap (λ j. has_back (statement script t j)) same) ∙ e) back)

      by : (leg : Leg) → m.leg ≡ leg → names i (tag_of (outgoing script m)) ≡ false
      by Go e =
          let same : m ≡ message t m.statement Go = (λ k. record { origin = own e k; statement = m.statement; leg = e k }) in
          ap (λ x. names i (tag_of (outgoing script x))) same ∙ ap (names i) (tag-go m.statement) ∙ unnamed (has_back (statement script t m.statement)) m.statement refl
      by Back e = apart Back e refl
      by Note e = apart Note e refl
      by Echo e = apart Echo e refl
      by (Join d) e = apart (Join d) e refl

  -- ---- what an end is told of

  module _ (rules : Rules) (b : ℕ) (J : List Event) (s : SendingEnd) (numbers : s.window.numbers ≡ length (numbered script J t b)) (tags : HasTags script s J t b) (base bits : ℕ) (covers-sent : (n : ℕ) → is_covered base bits n ≡ true → n < sent_count s.window) where
    abbrev pairs : List (MsgName × ℕ)
    pairs = numbered script J t b

    -- the number is acknowledged by this for the first time
    abbrev pub newly : ℕ → Bool
    newly n = is_covered base bits n && not (window.is_acked s.window n)

    told-at : (i n : ℕ) (q : Bool) → n < s.window.numbers → names i (tag_at script J t b n) ≡ q → ((window.is_sent s.window n && not (window.is_acked s.window n)) && names i (covered_tag s base bits n)) ≡ (q && newly n)
    told-at i n q l is = cases (window.is_acked s.window n) refl (is_covered base bits n) refl
      where
        off : (x : Bool) → (x && false) ≡ false
        off true = refl
        off false = refl

        on : (x : Bool) → (x && true) ≡ x
        on true = refl
        on false = refl

        cases : (a : Bool) → window.is_acked s.window n ≡ a → (c : Bool) → is_covered base bits n ≡ c → ((window.is_sent s.window n && not (window.is_acked s.window n)) && names i (cond (is_covered base bits n) (link.tag_of s n) None)) ≡ (q && (is_covered base bits n && not (window.is_acked s.window n)))
        cases true a c e =
            and_left (window.is_sent s.window n && not (window.is_acked s.window n)) _ (and_right (window.is_sent s.window n) _ (ap not a))
            ∙ sym (ap (λ x. q && x) (and_right (is_covered base bits n) _ (ap not a)) ∙ off q)
        cases false a true e =
            (λ k. (lt-ltb n (sent_count s.window) (covers-sent n e) k && not (a k)) && names i (cond (e k) (link.tag_of s n) None))
            ∙ ap (names i) (tags.tags n l a)
            ∙ is
            ∙ sym ((λ k. q && (e k && not (a k))) ∙ on q)
        cases false a false e =
            ap (λ c. (window.is_sent s.window n && not (window.is_acked s.window n)) && names i (cond c (link.tag_of s n) None)) e
            ∙ off _
            ∙ sym ((λ k. q && (e k && not (window.is_acked s.window n))) ∙ off q)

    own-go : (n : ℕ) (pair : MsgName × ℕ) → slice_get pairs n ≡ Some pair → pair.0.leg ≡ Go → pair.0.origin ≡ t
    own-go n pair at e = let c = numbered-copied script J t b n pair at in by pair.0 e c.1
      where
        by : (m : MsgName) → m.leg ≡ Go → sender script m ≡ t → m.origin ≡ t
        by m go from = ap (λ (l : Leg). from_by m.origin (target script m.origin m.statement) l) (sym go) ∙ from

    tag-is : (n : ℕ) → n < s.window.numbers → (pair : MsgName × ℕ) × (slice_get pairs n ≡ Some pair) × (tag_at script J t b n ≡ tag_of (outgoing script pair.0))
    unfolding tag_at
    tag-is n l = let x = get-some pairs n (omega (arith, l, numbers)) in (x.0, x.1, ap (message_tag script) x.1)

    -- how often a statement is told of, where nothing brings its data back,
    pub counted : (i : ℕ) → has_back (statement script t i) ≡ false → times i (newly_acked s base bits) ≡ count_in script (message t i Go) pairs newly
    unfolding count_in
    counted i none =
        times-told i s.window.numbers (λ n. window.is_sent s.window n && not (window.is_acked s.window n)) (covered_tag s base bits)
        ∙ ap (λ (ns : List ℕ). length ns) (below-same s.window.numbers _ (λ n. is_of script (message t i Go) (slice_get pairs n) && newly n) (λ n l.
        let x = tag-is n l in
        told-at i n (is_of script (message t i Go) (slice_get pairs n)) l (ap (names i) x.2 ∙ names-is i x.0.0 none (own-go n x.0 x.1) ∙ sym (ap (is_of script (message t i Go)) x.1))))
        ∙ ap (λ m. length (below m (λ n. is_of script (message t i Go) (slice_get pairs n) && newly n))) numbers

    -- and that it is not told of, where they come back
    pub uncounted : (i : ℕ) → has_back (statement script t i) ≡ true → times i (newly_acked s base bits) ≡ 0
    uncounted i back =
        times-told i s.window.numbers (λ n. window.is_sent s.window n && not (window.is_acked s.window n)) (covered_tag s base bits)
        ∙ length-below-none s.window.numbers _ (λ n l. let x = tag-is n l in told-at i n false l (ap (names i) x.2 ∙ names-none i x.0.0 back (own-go n x.0 x.1)))

    -- on the link to another task than its own, no number is of the statement's data
    pub elsewhere : (i : ℕ) → (receiver script (message t i Go) ≡ b → ⊥) → count_in script (message t i Go) pairs newly ≡ 0
    unfolding count_in
    elsewhere i apart =
        length-below-none (length pairs) (λ n. is_of script (message t i Go) (slice_get pairs n) && newly n) (λ n l.
        let x = get-some pairs n l in
        and_left (is_of script (message t i Go) (slice_get pairs n)) (newly n)
        (ap (is_of script (message t i Go)) x.1
        ∙ false_from_ne_true (name_eq (message t i Go) x.0.0) (λ same.
        let is = name_eq-true (message t i Go) x.0.0 same in
        apart (ap (receiver script) is ∙ (numbered-copied script J t b n x.0 x.1).2))))

    -- each tag is a statement's
    tag-statement : (m : MsgName) (i : ℕ) → tag_of (outgoing script m) ≡ Some i → (m.leg ≡ Go) × (m.statement ≡ i)
    tag-statement m i e = by m.leg refl (is_some (back_head (head_by script m m.leg (statement script m.origin m.statement)))) refl
      where
        on : (l : Leg) (x : Bool) → cond (leg_eq l Go && not x) (Some m.statement) None ≡ Some i → (leg_eq l Go ≡ true) × (m.statement ≡ i)
        on Go true h = absurd (let q : None ≡ Some i = h in cc)
        on Go false h = (refl, (let q : m.statement ≡ i = cc in q))
        on Back x h = absurd (let q : None ≡ Some i = h in cc)
        on Note x h = absurd (let q : None ≡ Some i = h in cc)
        on Echo x h = absurd (let q : None ≡ Some i = h in cc)
        on (Join d) x h = absurd (let q : None ≡ Some i = h in cc)

        go-is : (l : Leg) → leg_eq l Go ≡ true → l ≡ Go
        go-is Go h = refl
        go-is Back h = absurd (false≢true h)
        go-is Note h = absurd (false≢true h)
        go-is Echo h = absurd (false≢true h)
        go-is (Join d) h = absurd (false≢true h)

        by : (l : Leg) → m.leg ≡ l → (x : Bool) → is_some (back_head (head_by script m m.leg (statement script m.origin m.statement))) ≡ x → (m.leg ≡ Go) × (m.statement ≡ i)
        by l el x ex =
            let r = on m.leg (is_some (back_head (head_by script m m.leg (statement script m.origin m.statement)))) e in
            (go-is m.leg r.0, r.1)

    module _ (atomic : Atomic script rules J) where
      listed : (m : MsgName) → happened (Copied m) J ≡ true → m.origin ≡ t → m.statement < length (statements script t)
      listed m d own =
          let here = (and_parts _ _ (there script rules (Copied m) J atomic d)).0 in
          subst (λ a. m.statement < length (statements script a)) own (ltb-true m.statement (length (statements script m.origin)) (and_parts _ _ here).1)

      covered-known : (n i : ℕ) → n < s.window.numbers → window.is_acked s.window n ≡ false → covered_tag s base bits n ≡ Some i → i < length (statements script t)
      covered-known n i l u e =
          let x = tag-is n l in
          let tag = named (is_covered base bits n) e in
          let is = tag-statement x.0.0 i (sym x.2 ∙ sym (tags.tags n l u) ∙ tag) in
          let copied = (numbered-copied script J t b n x.0 x.1).0 in
          subst (λ k. k < length (statements script t)) is.1 (listed x.0.0 copied (own-go n x.0 x.1 is.0))
        where
          named : (c : Bool) → cond c (link.tag_of s n) None ≡ Some i → link.tag_of s n ≡ Some i
          named true h = h
          named false h = absurd (let q : None ≡ Some i = h in cc)

      all-known : (ns : List ℕ) → AllByRecursion (λ n. (n < s.window.numbers) × ((window.is_sent s.window n && not (window.is_acked s.window n)) ≡ true)) ns → AllByRecursion (λ i. i < length (statements script t)) (filter_map (covered_tag s base bits) ns)
      all-known [] h = tt
      all-known (n ∷ ns) h = consed (covered_tag s base bits n) refl (all-known ns h.1)
        where
          consed : (o : Option ℕ) → covered_tag s base bits n ≡ o → AllByRecursion (λ i. i < length (statements script t)) (filter_map (covered_tag s base bits) ns) → AllByRecursion (λ i. i < length (statements script t)) (cons_option o (filter_map (covered_tag s base bits) ns))
          consed None e rest = rest
          consed (Some i) e rest = (covered-known n i h.0.0 (not-true _ (and_parts (window.is_sent s.window n) _ h.0.1).1) e, rest)

      pub tags-known : AllByRecursion (λ i. i < length (statements script t)) (newly_acked s base bits)
      tags-known = all-known (window.unacked s.window) (below-all s.window.numbers (λ n. window.is_sent s.window n && not (window.is_acked s.window n)))
