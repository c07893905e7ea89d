-- Which statements have messages that are to be copied, from event to event.
use Rattle.std.proofs.Common.{◌≡◌, ◌≢◌, ◌⊎◌, ℕ, zero, suc, ◌<◌, ◌≤◌, ◌==◌, Bool, true, false, cond, ◌&&◌, ◌||◌, not, List, [], ◌∷◌, map, Some, refl, sym, ap, ◌∙◌, subst, ⊎_elim, inl, inr, arith}
use Rattle.std.specs.Prelude.{slice_get}
use Rattle.std.specs.List.{AllByRecursion, list_any, filter}
use Rattle.std.proofs.lemmas.Bool.{false≢true, cond-true, cond-false, cond_both, and_parts, and_from, and_left, and_right, not-true, or_left, or_right, ne_eqb, cases_eq}
use Rattle.lapi_base.specs.declared.script.Script.{Script}
use Rattle.lapi_base.specs.declared.statement.Statement.{Statement}
use Rattle.lapi_base.specs.declared.statement.Statement.TheVariants.{Gfence}
use Rattle.lapi_base.specs.declared.event.Event.{Event}
use Rattle.lapi_base.specs.declared.event.Event.TheVariants.{Issue, Enter}
use Rattle.lapi_base.specs.declared.message.Leg.{Leg}
use Rattle.lapi_base.specs.declared.message.Leg.TheVariants.{Go, Join}
use Rattle.lapi_base.specs.declared.message.MsgName.{MsgName}
use Rattle.lapi_base.specs.Record.Acts.{joins, to_copy_of}
use Rattle.lapi_base.specs.Record.Below.{below}
use Rattle.lapi_base.specs.Record.Names.{message, name_eq, leg_eq, happened, key_of, key_eq, Issued, Entered, Copied}
use Rattle.lapi_base.specs.Record.Operations.{numbers_below, statement, is_data, has_join}
use Rattle.lapi_base.proofs.BelowLaws.{below-all}
use Rattle.lapi_base.proofs.ListLaws.{all-filter, all-map, all-weaker}
use Rattle.lapi_base.proofs.NameLaws.{happened-head, happened-other}
use Rattle.lapi_base.proofs.UptoLaws.{numbers_below-get}
use Rattle.lapi_task.specs.StandsFor.{is_uncopied}

-- tests that agree on a list find the same in it
any-same : (p q : MsgName → Bool) (ms : List MsgName) → AllByRecursion (λ m. p m ≡ q m) ms → list_any p ms ≡ list_any q ms
any-same p q [] h = refl
any-same p q (m ∷ ms) h = λ k. h.0 k || any-same p q ms h.1 k

any-kept : (p : MsgName → Bool) (f : ℕ → MsgName) (t : ℕ → Bool) (xs : List ℕ) (k x : ℕ) → slice_get xs k ≡ Some x → t x ≡ true → p (f x) ≡ true → list_any p (map f (filter t xs)) ≡ true
any-kept p f t [] k x at keeps passes = absurd (cc)
any-kept p f t (y ∷ ys) zero x at keeps passes =
    let same : y ≡ x = cc in
    ap (λ zs. list_any p (map f zs)) (cond-true (t y) (y ∷ filter t ys) (filter t ys) (ap t same ∙ keeps))
    ∙ or_left (p (f y)) (list_any p (map f (filter t ys))) (ap (λ z. p (f z)) same ∙ passes)
any-kept p f t (y ∷ ys) (suc k) x at keeps passes =
    let later = any-kept p f t ys k x at keeps passes in
    cond_both (t y) (y ∷ filter t ys) (filter t ys) (λ zs. list_any p (map f zs) ≡ true) (λ _. or_right (p (f y)) (list_any p (map f (filter t ys))) later) (λ _. later)

pub join-no-data : (s : Statement) → has_join s ≡ true → is_data s ≡ false
join-no-data Gfence h = refl
join-no-data (Statement.Addr at) h = refl
join-no-data _ h = absurd (false≢true h)

-- the messages of two statements differ
pub other-name : (t i k : ℕ) (l g : Leg) → k ≢ i → name_eq (message t k l) (message t i g) ≡ false
unfolding name_eq
other-name t i k l g apart = and_left (t == t && k == i) (leg_eq l g) (and_right (t == t) (k == i) (ne_eqb k i apart))

apart-numbers : (t i k : ℕ) → k ≢ i → (t == t && k == i) ≡ false
apart-numbers t i k apart = and_right (t == t) (k == i) (ne_eqb k i apart)

-- the Joins of statement i of task t to the other tasks below n
abbrev pub joins_to : (t i n : ℕ) → List MsgName
joins_to t i n = map (λ d. message t i (Join d)) (filter (λ d. not (d == t)) (numbers_below n))

-- this is one of them
abbrev pub IsJoin : (t i n : ℕ) → MsgName → Type 0
IsJoin t i n m = (d : ℕ) × (m ≡ message t i (Join d)) × (d < n) × ((d == t) ≡ false)

pub joins-are : (t i n : ℕ) → AllByRecursion (IsJoin t i n) (joins_to t i n)
unfolding numbers_below
joins-are t i n =
    all-map (λ d. ((d < n) × (true ≡ true)) × (not (d == t) ≡ true)) (IsJoin t i n) (λ d. message t i (Join d)) (filter (λ d. not (d == t)) (below n (λ _. true)))
    (all-filter (λ d. (d < n) × (true ≡ true)) (λ d. not (d == t)) (below n (λ _. true)) (below-all n (λ _. true)))
    (λ d h. (d, refl, h.0.0, not-true (d == t) h.1))

module _ (script : Script) (t : ℕ) where
  -- A message that statement i may copy is its data, or one of its Joins.
  abbrev pub IsOwn : ℕ → MsgName → Type 0
  IsOwn i m = (m ≡ message t i Go) ⊎ IsJoin t i script.tasks m

  pub own-messages : (J : List Event) (i : ℕ) → AllByRecursion (IsOwn i) (to_copy_of script J t i)
  own-messages J i =
      cond_both (is_data (statement script t i) && happened (Issued t i) J) (message t i Go ∷ []) _ (AllByRecursion (IsOwn i))
      (λ _. (inl refl, tt))
      (λ _. cond_both (has_join (statement script t i) && happened (Entered t i) J) (joins script t i) [] (AllByRecursion (IsOwn i)) (λ _. all-weaker (IsJoin t i script.tasks) (IsOwn i) (λ m h. inr h) (joins script t i) (joins-are t i script.tasks)) (λ _. tt))

  -- Of statement i both journals tell the same.
  pub record SameMessages (J K : List Event) (i : ℕ) : Type 0 where
    pub issued : happened (Issued t i) K ≡ happened (Issued t i) J
    pub entered : happened (Entered t i) K ≡ happened (Entered t i) J
    pub data_copied : happened (Copied (message t i Go)) K ≡ happened (Copied (message t i Go)) J
    pub joins_copied : (d : ℕ) → happened (Copied (message t i (Join d))) K ≡ happened (Copied (message t i (Join d))) J

  pub to-copy-same : (J K : List Event) (i : ℕ) → happened (Issued t i) K ≡ happened (Issued t i) J → happened (Entered t i) K ≡ happened (Entered t i) J → to_copy_of script K t i ≡ to_copy_of script J t i
  to-copy-same J K i issued entered = λ k. cond (is_data (statement script t i) && issued k) (message t i Go ∷ []) (cond (has_join (statement script t i) && entered k) (joins script t i) [])

  copied-same : (J K : List Event) (i : ℕ) → SameMessages J K i → (m : MsgName) → IsOwn i m → not (happened (Copied m) K) ≡ not (happened (Copied m) J)
  copied-same J K i h m own =
      ⊎_elim
      (λ (e : m ≡ message t i Go). subst (λ (n : MsgName). not (happened (Copied n) K) ≡ not (happened (Copied n) J)) (sym e) (ap not h.data_copied))
      (λ (e : IsJoin t i script.tasks m). subst (λ (n : MsgName). not (happened (Copied n) K) ≡ not (happened (Copied n) J)) (sym e.1) (ap not (h.joins_copied e.0)))
      own

  pub uncopied-same : (J K : List Event) (i : ℕ) → SameMessages J K i → is_uncopied script J t i ≡ is_uncopied script K t i
  uncopied-same J K i h =
      sym (ap (list_any (λ m. not (happened (Copied m) K))) (to-copy-same J K i h.issued h.entered)
      ∙ any-same (λ m. not (happened (Copied m) K)) (λ m. not (happened (Copied m) J)) (to_copy_of script J t i) (all-weaker (IsOwn i) _ (copied-same J K i h) (to_copy_of script J t i) (own-messages J i)))

  -- An event that neither issues nor enters statement i, and copies none of its messages, leaves it.
  pub record LeavesMessages (e : Event) (i : ℕ) : Type 0 where
    pub issued : key_eq (Issued t i) (key_of e) ≡ false
    pub entered : key_eq (Entered t i) (key_of e) ≡ false
    pub data_copied : key_eq (Copied (message t i Go)) (key_of e) ≡ false
    pub joins_copied : (d : ℕ) → key_eq (Copied (message t i (Join d))) (key_of e) ≡ false

  pub same-messages : (e : Event) (J : List Event) (i : ℕ) → LeavesMessages e i → SameMessages J (e ∷ J) i
  same-messages e J i h = record {
    issued = happened-other (Issued t i) e J h.issued;
    entered = happened-other (Entered t i) e J h.entered;
    data_copied = happened-other (Copied (message t i Go)) e J h.data_copied;
    joins_copied = λ d. happened-other (Copied (message t i (Join d))) e J (h.joins_copied d);
  }

  pub uncopied-stays : (e : Event) (J : List Event) (i : ℕ) → LeavesMessages e i → is_uncopied script J t i ≡ is_uncopied script (e ∷ J) t i
  uncopied-stays e J i h = uncopied-same J (e ∷ J) i (same-messages e J i h)

  -- What was neither issued nor entered has nothing to copy.
  pub nothing-yet : (J : List Event) (i : ℕ) → happened (Issued t i) J ≡ false → happened (Entered t i) J ≡ false → is_uncopied script J t i ≡ false
  nothing-yet J i issued entered =
      ap (list_any (λ m. not (happened (Copied m) J)))
      (cond-false (is_data (statement script t i) && happened (Issued t i) J) (message t i Go ∷ []) _ (and_right (is_data (statement script t i)) _ issued)
      ∙ cond-false (has_join (statement script t i) && happened (Entered t i) J) (joins script t i) [] (and_right (has_join (statement script t i)) _ entered))

  first-only : (b : Bool) → (b || false) ≡ true → b ≡ true
  first-only true h = refl
  first-only false h = h

  -- What a statement that waits is to copy: its data, which were issued and not copied,
  pub waiting-data : (J : List Event) (i : ℕ) → has_join (statement script t i) ≡ false → is_uncopied script J t i ≡ true → (is_data (statement script t i) ≡ true) × (happened (Issued t i) J ≡ true) × (happened (Copied (message t i Go)) J ≡ false) × (to_copy_of script J t i ≡ message t i Go ∷ [])
  waiting-data J i plain waits =
      let s = statement script t i in
      let go = message t i Go in
      let b = is_data s && happened (Issued t i) J in
      let calls = cond (has_join s && happened (Entered t i) J) (joins script t i) [] in
      let p = λ (m : MsgName). not (happened (Copied m) J) in
      elim b as (λ x. b ≡ x → list_any p (cond x (go ∷ []) calls) ≡ true → (is_data s ≡ true) × (happened (Issued t i) J ≡ true) × (happened (Copied go) J ≡ false) × (to_copy_of script J t i ≡ go ∷ [])) [
        | true ↦ λ e w. let parts = and_parts (is_data s) (happened (Issued t i) J) e in (parts.0, parts.1, not-true _ (first-only (p go) w), cond-true b (go ∷ []) calls e)
        | false ↦ λ e w. absurd (false≢true (sym (ap (list_any p) (cond-false (has_join s && happened (Entered t i) J) (joins script t i) [] (and_left (has_join s) _ plain))) ∙ w))
      ] refl waits

  -- or the Joins of a call.
  pub waiting-joins : (J : List Event) (i : ℕ) → has_join (statement script t i) ≡ true → is_uncopied script J t i ≡ true → to_copy_of script J t i ≡ joins script t i
  waiting-joins J i join waits =
      let s = statement script t i in
      let none = cond-false (is_data s && happened (Issued t i) J) (message t i Go ∷ []) (cond (has_join s && happened (Entered t i) J) (joins script t i) []) (and_left (is_data s) _ (join-no-data s join)) in
      let p = λ (m : MsgName). not (happened (Copied m) J) in
      none
      ∙ cond_both (has_join s && happened (Entered t i) J) (joins script t i) [] (λ ms. list_any p ms ≡ true → ms ≡ joins script t i) (λ _ _. refl) (λ _ w. absurd (false≢true w)) (sym (ap (list_any p) none) ∙ waits)

  -- ---- issues

  pub issue-other : (J : List Event) (i k : ℕ) → k ≢ i → is_uncopied script J t k ≡ is_uncopied script (Issue t i ∷ J) t k
  issue-other J i k apart = uncopied-stays (Issue t i) J k (record { issued = apart-numbers t i k apart; entered = refl; data_copied = refl; joins_copied = λ d. refl })

  -- data that are issued are to be copied,
  pub issue-brings : (J : List Event) (i : ℕ) → is_data (statement script t i) ≡ true → happened (Copied (message t i Go)) J ≡ false → is_uncopied script (Issue t i ∷ J) t i ≡ true
  issue-brings J i brings fresh =
      ap (list_any (λ m. not (happened (Copied m) (Issue t i ∷ J))))
      (cond-true (is_data (statement script t i) && happened (Issued t i) (Issue t i ∷ J)) (message t i Go ∷ []) _ (and_from (is_data (statement script t i)) _ brings (happened-head (Issue t i) J)))
      ∙ or_left (not (happened (Copied (message t i Go)) (Issue t i ∷ J))) false (ap not (happened-other (Copied (message t i Go)) (Issue t i) J refl ∙ fresh))

  -- and the issue of another statement changes nothing.
  pub issue-plain : (J : List Event) (i : ℕ) → is_data (statement script t i) ≡ false → is_uncopied script J t i ≡ is_uncopied script (Issue t i ∷ J) t i
  issue-plain J i plain =
      let no = λ (K : List Event). cond-false (is_data (statement script t i) && happened (Issued t i) K) (message t i Go ∷ []) (cond (has_join (statement script t i) && happened (Entered t i) K) (joins script t i) []) (and_left (is_data (statement script t i)) _ plain) in
      let entered = happened-other (Entered t i) (Issue t i) J refl in
      ap (list_any (λ m. not (happened (Copied m) J))) (no J ∙ (λ k. cond (has_join (statement script t i) && sym entered k) (joins script t i) []) ∙ sym (no (Issue t i ∷ J)))
      ∙ sym (any-same (λ m. not (happened (Copied m) (Issue t i ∷ J))) (λ m. not (happened (Copied m) J)) (to_copy_of script (Issue t i ∷ J) t i)
      (all-weaker (IsOwn i) _ (λ m _. ap not (happened-other (Copied m) (Issue t i) J refl)) (to_copy_of script (Issue t i ∷ J) t i) (own-messages (Issue t i ∷ J) i)))

  -- ---- entries

  pub enter-other : (J : List Event) (i k : ℕ) → k ≢ i → is_uncopied script J t k ≡ is_uncopied script (Enter t i ∷ J) t k
  enter-other J i k apart = uncopied-stays (Enter t i) J k (record { issued = refl; entered = apart-numbers t i k apart; data_copied = refl; joins_copied = λ d. refl })

  entered-list : (J : List Event) (i : ℕ) → has_join (statement script t i) ≡ true → to_copy_of script (Enter t i ∷ J) t i ≡ joins script t i
  entered-list J i join =
      let s = statement script t i in
      cond-false (is_data s && happened (Issued t i) (Enter t i ∷ J)) (message t i Go ∷ []) _ (and_left (is_data s) _ (join-no-data s join))
      ∙ cond-true (has_join s && happened (Entered t i) (Enter t i ∷ J)) (joins script t i) [] (and_from (has_join s) _ join (happened-head (Enter t i) J))

  -- Where there are other tasks, and none was told yet, they are to be told,
  pub enter-many : (J : List Event) (i : ℕ) → has_join (statement script t i) ≡ true → 1 < script.tasks → ((d : ℕ) → happened (Copied (message t i (Join d))) J ≡ false) → is_uncopied script (Enter t i ∷ J) t i ≡ true
  enter-many J i join many fresh =
      let K = Enter t i ∷ J in
      let told = λ (d : ℕ) (l : d < script.tasks) (apart : d ≢ t). any-kept (λ m. not (happened (Copied m) K)) (λ d. message t i (Join d)) (λ d. not (d == t)) (numbers_below script.tasks) d d (numbers_below-get script.tasks d l) (ap not (ne_eqb d t apart)) (ap not (happened-other (Copied (message t i (Join d))) (Enter t i) J refl ∙ fresh d)) in
      ap (list_any (λ m. not (happened (Copied m) K))) (entered-list J i join)
      ∙ ⊎_elim
      (λ (first : t ≡ 0). told 1 many (λ same. absurd (omega (arith, first, same))))
      (λ (later : t ≡ 0 → ⊥). told 0 (omega (arith, many)) (λ same. later (sym same)))
      (cases_eq t 0)

  -- and a task alone has nobody to tell.
  alone : t < script.tasks → script.tasks ≤ 1 → (i : ℕ) → joins script t i ≡ []
  unfolding numbers_below below
  alone known few i =
      let one : script.tasks ≡ 1 = omega (arith, known, few) in
      let first : t ≡ 0 = omega (arith, known, few) in
      λ k. map (λ d. message t i (Join d)) (filter (λ d. not (d == first k)) (numbers_below (one k)))

  pub enter-alone : (J : List Event) (i : ℕ) → has_join (statement script t i) ≡ true → t < script.tasks → script.tasks ≤ 1 → is_uncopied script J t i ≡ is_uncopied script (Enter t i ∷ J) t i
  enter-alone J i join known few =
      let s = statement script t i in
      let none = alone known few i in
      let before : to_copy_of script J t i ≡ [] =
      cond-false (is_data s && happened (Issued t i) J) (message t i Go ∷ []) _ (and_left (is_data s) _ (join-no-data s join))
      ∙ cond_both (has_join s && happened (Entered t i) J) (joins script t i) [] (λ (ms : List MsgName). ms ≡ []) (λ _. none) (λ _. refl) in
      ap (list_any (λ m. not (happened (Copied m) J))) before
      ∙ sym (ap (list_any (λ m. not (happened (Copied m) (Enter t i ∷ J)))) (entered-list J i join ∙ none))
