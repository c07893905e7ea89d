-- What a poll copies, as the list of the statements whose messages wait for it.
use Rattle.std.proofs.Common.{◌≡◌, ◌≢◌, ◌⊎◌, ℕ, zero, suc, ◌<◌, ◌≤◌, ◌==◌, Bool, true, false, cond, not, ◌&&◌, ◌||◌, List, [], ◌∷◌, ◌++◌, map, length, refl, sym, ap, ◌∙◌, subst, ⊎_elim, inl, inr, arith, append_assoc}
use Rattle.std.specs.List.{flat_map, filter, AllByRecursion, list_any}
use Rattle.std.proofs.lemmas.Bool.{false≢true, cond-true, cond-false, cond_both, and_right, not-true, not-false, or_parts, ne_eqb}
use Rattle.std.proofs.lemmas.List.{map-append}
use Rattle.std.proofs.lemmas.List.Elements.{filter-append}
use Rattle.lapi_base.specs.declared.script.Script.{Script}
use Rattle.lapi_base.specs.declared.rule.Rules.{Rules}
use Rattle.lapi_base.specs.declared.event.Event.{Event}
use Rattle.lapi_base.specs.declared.event.Event.TheVariants.{Copy}
use Rattle.lapi_base.specs.declared.message.Leg.{Leg}
use Rattle.lapi_base.specs.declared.message.Leg.TheVariants.{Go, Join}
use Rattle.lapi_base.specs.declared.message.MsgName.{MsgName}
use Rattle.lapi_base.specs.Record.Below.{below}
use Rattle.lapi_base.specs.Record.Names.{EventKey, Issued, Copied, Entered, happened, message, name_eq, leg_eq}
use Rattle.lapi_base.specs.Record.Operations.{numbers_below, statement, statements, is_data, has_join}
use Rattle.lapi_base.specs.Record.Acts.{copy_each, ready, to_copy_of, joins, followed}
use Rattle.lapi_base.specs.Record.Wires.{Run}
use Rattle.lapi_base.specs.Laws.Copying.{JoinsAreCopiedTogether}
use Rattle.lapi_base.proofs.ListLaws.{all-any, all-append, all-weaker, any-all, flat_map-push}
use Rattle.lapi_base.proofs.NameLaws.{happened-head, happened-later, happened-other}
use Rattle.lapi_task.specs.Copies.{copies_of}
use Rattle.lapi_task.specs.StandsFor.{is_uncopied}
use Rattle.lapi_task.proofs.Copying.UncopiedLaws.{joins_to, IsJoin, joins-are, IsOwn, own-messages, other-name, SameMessages, to-copy-same, uncopied-same}

-- the copies of these messages, and of those that these statements of task t may copy
abbrev pub copies : List MsgName → List Event
copies ms = map (λ m. Copy m) ms

abbrev pub all_copies : Script → List Event → (t : ℕ) → List ℕ → List Event
all_copies script J t numbers = flat_map (copies_of script J t) numbers

pub copies-append : (ms ns : List MsgName) → copies (ms ++ ns) ≡ copies ms ++ copies ns
copies-append ms ns = map-append (λ m. Copy m) ms ns

pub followed-append : (J : List Event) (es fs : List Event) → followed J (es ++ fs) ≡ followed (followed J es) fs
unfolding followed
followed-append J [] fs = refl
followed-append J (e ∷ es) fs = followed-append (e ∷ J) es fs

pub followed-one : (J : List Event) (e : Event) → followed J (e ∷ []) ≡ e ∷ J
unfolding followed
followed-one J e = refl

pub followed-none : (J : List Event) → followed J [] ≡ J
unfolding followed
followed-none J = refl

pub followed-push : (script : Script) (J K : List Event) (t : ℕ) (numbers : List ℕ) (i : ℕ) → followed K (all_copies script J t (numbers ++ i ∷ [])) ≡ followed (followed K (all_copies script J t numbers)) (copies_of script J t i)
followed-push script J K t numbers i = ap (followed K) (flat_map-push (copies_of script J t) numbers i) ∙ followed-append K (all_copies script J t numbers) (copies_of script J t i)

-- a journal that follows another ends in it
pub ends-in : (es J : List Event) → (later : List Event) × (followed J es ≡ later ++ J)
unfolding followed
ends-in [] J = ([], refl)
ends-in (e ∷ es) J = let x = ends-in es (e ∷ J) in (x.0 ++ e ∷ [], x.1 ∙ sym (append_assoc x.0 (e ∷ []) J))

-- ---- what copies leave, and what they add

pub copies-keep : {X : Type 0} (f : List Event → X) (Q : MsgName → Type 0) → ((m : MsgName) (J : List Event) → Q m → f (Copy m ∷ J) ≡ f J) → (ms : List MsgName) (J : List Event) → AllByRecursion Q ms → f (followed J (copies ms)) ≡ f J
unfolding followed
copies-keep f Q one [] J h = refl
copies-keep f Q one (m ∷ ms) J h = copies-keep f Q one ms (Copy m ∷ J) h.1 ∙ one m J h.0

pub copies-carry : (P : List Event → Type 0) (Q : MsgName → Type 0) → ((m : MsgName) (J : List Event) → Q m → P J → P (Copy m ∷ J)) → (ms : List MsgName) (J : List Event) → AllByRecursion Q ms → P J → P (followed J (copies ms))
unfolding followed
copies-carry P Q one [] J h p = p
copies-carry P Q one (m ∷ ms) J h p = copies-carry P Q one ms (Copy m ∷ J) h.1 (one m J h.0 p)

pub happened-followed : (key : EventKey) (es J : List Event) → happened key J ≡ true → happened key (followed J es) ≡ true
unfolding followed
happened-followed key [] J h = h
happened-followed key (e ∷ es) J h = happened-followed key es (e ∷ J) (happened-later key e J h)

copies-happened : (ms : List MsgName) (J : List Event) → AllByRecursion (λ m. happened (Copied m) (followed J (copies ms)) ≡ true) ms
unfolding followed
copies-happened [] J = tt
copies-happened (m ∷ ms) J = (happened-followed (Copied m) (copies ms) (Copy m ∷ J) (happened-head (Copy m) J), copies-happened ms (Copy m ∷ J))

-- the messages of two statements differ
pub other-message : (t i k : ℕ) → k ≢ i → name_eq (message t k Go) (message t i Go) ≡ false
other-message t i k ne = other-name t i k Go Go ne

none-any : (p : MsgName → Bool) (ms : List MsgName) → AllByRecursion (λ m. p m ≡ false) ms → list_any p ms ≡ false
none-any p [] h = refl
none-any p (m ∷ ms) h = ap (λ b. b || list_any p ms) h.0 ∙ none-any p ms h.1

module _ (script : Script) (t : ℕ) where
  own-other : (i k : ℕ) (l : Leg) (m : MsgName) → k ≢ i → IsOwn script t i m → name_eq (message t k l) m ≡ false
  own-other i k l m apart own =
      ⊎_elim
      (λ (e : m ≡ message t i Go). ap (name_eq (message t k l)) e ∙ other-name t i k l Go apart)
      (λ (e : IsJoin t i script.tasks m). ap (name_eq (message t k l)) e.1 ∙ other-name t i k l (Join e.0) apart)
      own

  -- Copies neither issue nor enter, and those of one statement copy no message of another.
  issued-kept : (k : ℕ) (ms : List MsgName) (J : List Event) → happened (Issued t k) (followed J (copies ms)) ≡ happened (Issued t k) J
  issued-kept k ms J = copies-keep (happened (Issued t k)) (λ _. Unit {0}) (λ m K _. happened-other (Issued t k) (Copy m) K refl) ms J (all-any ms)

  entered-kept : (k : ℕ) (ms : List MsgName) (J : List Event) → happened (Entered t k) (followed J (copies ms)) ≡ happened (Entered t k) J
  entered-kept k ms J = copies-keep (happened (Entered t k)) (λ _. Unit {0}) (λ m K _. happened-other (Entered t k) (Copy m) K refl) ms J (all-any ms)

  copied-kept : (J K : List Event) (i k : ℕ) (l : Leg) → k ≢ i → happened (Copied (message t k l)) (followed K (copies_of script J t i)) ≡ happened (Copied (message t k l)) K
  copied-kept J K i k l apart =
      copies-keep (happened (Copied (message t k l))) (IsOwn script t i)
      (λ m L own. happened-other (Copied (message t k l)) (Copy m) L (own-other i k l m apart own))
      (to_copy_of script J t i) K (own-messages script t J i)

  others-same : (J : List Event) (i k : ℕ) → k ≢ i → SameMessages script t J (followed J (copies_of script J t i)) k
  others-same J i k apart = record {
    issued = issued-kept k (to_copy_of script J t i) J;
    entered = entered-kept k (to_copy_of script J t i) J;
    data_copied = copied-kept J J i k Go apart;
    joins_copied = λ d. copied-kept J J i k (Join d) apart;
  }

  pub to-copy-later : (J K : List Event) (i : ℕ) (numbers : List ℕ) → to_copy_of script (followed K (all_copies script J t numbers)) t i ≡ to_copy_of script K t i
  to-copy-later J K i [] = ap (λ L. to_copy_of script L t i) (followed-none K)
  to-copy-later J K i (k ∷ numbers) =
      let first = followed K (copies_of script J t k) in
      ap (λ L. to_copy_of script L t i) (followed-append K (copies_of script J t k) (all_copies script J t numbers))
      ∙ to-copy-later J first i numbers
      ∙ to-copy-same script t K first i (issued-kept i (to_copy_of script J t k) K) (entered-kept i (to_copy_of script J t k) K)

  -- A statement whose messages were copied has none to copy.
  pub own-copied : (J : List Event) (i : ℕ) → is_uncopied script (followed J (copies_of script J t i)) t i ≡ false
  own-copied J i =
      let ms = to_copy_of script J t i in
      let L = followed J (copies ms) in
      ap (list_any (λ m. not (happened (Copied m) L))) (to-copy-same script t J L i (issued-kept i ms J) (entered-kept i ms J))
      ∙ none-any (λ m. not (happened (Copied m) L)) ms (all-weaker (λ m. happened (Copied m) L ≡ true) (λ m. not (happened (Copied m) L) ≡ false) (λ m h. ap not h) ms (copies-happened ms J))

  pub others-uncopied : (J : List Event) (i k : ℕ) → k ≢ i → is_uncopied script (followed J (copies_of script J t i)) t k ≡ is_uncopied script J t k
  others-uncopied J i k apart = sym (uncopied-same script t J (followed J (copies_of script J t i)) k (others-same J i k apart))

  -- the copies of earlier statements leave a message of this one
  not-among : (J K : List Event) (n : ℕ) (l : Leg) (numbers : List ℕ) → AllByRecursion (λ i. i < n) numbers → happened (Copied (message t n l)) (followed K (all_copies script J t numbers)) ≡ happened (Copied (message t n l)) K
  not-among J K n l [] h = ap (happened (Copied (message t n l))) (followed-none K)
  not-among J K n l (i ∷ numbers) h =
      ap (happened (Copied (message t n l))) (followed-append K (copies_of script J t i) (all_copies script J t numbers))
      ∙ not-among J (followed K (copies_of script J t i)) n l numbers h.1
      ∙ copied-kept J K i n l (let less = h.0 in λ same. absurd (omega (arith, less, same)))

below-bound : (n : ℕ) (p : ℕ → Bool) (m : ℕ) → n ≤ m → AllByRecursion (λ i. i < m) (below n p)
unfolding below
below-bound zero p m l = tt
below-bound (suc n) p m l =
    elim (p n) as (λ b. AllByRecursion (λ i. i < m) (cond b (below n p ++ n ∷ []) (below n p))) [
      | true ↦ all-append (λ i. i < m) (below n p) (n ∷ []) (below-bound n p m (let q : n ≤ m = omega arith in q)) ((let q : n < m = omega arith in q), tt)
      | false ↦ below-bound n p m (let q : n ≤ m = omega arith in q)
    ]

copy_each-append : (J : List Event) (ms ns : List MsgName) → copy_each J (ms ++ ns) ≡ copy_each (copy_each J ms) ns
unfolding copy_each
copy_each-append J [] ns = refl
copy_each-append J (m ∷ ms) ns = copy_each-append (cond (happened (Copied m) J) J (Copy m ∷ J)) ms ns

one-copy : (K : List Event) (m : MsgName) → copy_each K (m ∷ []) ≡ cond (happened (Copied m) K) K (Copy m ∷ K)
unfolding copy_each
one-copy K m = refl

no-copy : (K : List Event) → copy_each K [] ≡ K
unfolding copy_each
no-copy K = refl

new-copy : (K : List Event) (m : MsgName) → happened (Copied m) K ≡ false → copy_each K (m ∷ []) ≡ followed K (Copy m ∷ [])
new-copy K m fresh = one-copy K m ∙ cond-false (happened (Copied m) K) K (Copy m ∷ K) fresh ∙ sym (followed-one K (Copy m))

-- what was copied is not copied again
old-copies : (K : List Event) (ms : List MsgName) → AllByRecursion (λ m. happened (Copied m) K ≡ true) ms → copy_each K ms ≡ K
unfolding copy_each
old-copies K [] h = refl
old-copies K (m ∷ ms) h = ap (λ L. copy_each L ms) (cond-true (happened (Copied m) K) K (Copy m ∷ K) h.0) ∙ old-copies K ms h.1

none-left : (J : List Event) (ms : List MsgName) → list_any (λ m. not (happened (Copied m) J)) ms ≡ false → AllByRecursion (λ m. happened (Copied m) J ≡ true) ms
none-left J [] h = tt
none-left J (m ∷ ms) h = let parts = or_parts (not (happened (Copied m) J)) (list_any (λ m. not (happened (Copied m) J)) ms) h in (not-false _ parts.0, none-left J ms parts.1)

-- ---- the Joins of a statement

module _ (t i : ℕ) where
  abbrev pub last_join : ℕ → List MsgName
  last_join n = cond (n == t) [] (message t i (Join n) ∷ [])

  pub joins-more : (n : ℕ) → joins_to t i (suc n) ≡ joins_to t i n ++ last_join n
  unfolding numbers_below below
  joins-more n =
      let f = λ (d : ℕ). message t i (Join d) in
      let g = λ (d : ℕ). not (d == t) in
      ap (map f) (filter-append g (numbers_below n) (n ∷ []))
      ∙ map-append f (filter g (numbers_below n)) (filter g (n ∷ []))
      ∙ ap (λ ms. joins_to t i n ++ ms) (one (n == t))
    where
      one : (b : Bool) → map (λ d. message t i (Join d)) (cond (not b) (n ∷ []) []) ≡ cond b [] (message t i (Join n) ∷ [])
      one true = refl
      one false = refl

  pub joins-none : joins_to t i 0 ≡ []
  unfolding numbers_below below
  joins-none = refl

  -- a Join is none of those to the tasks before its own
  join-later : (n : ℕ) (m : MsgName) → IsJoin t i n m → name_eq (message t i (Join n)) m ≡ false
  unfolding name_eq
  join-later n m h = ap (λ (x : MsgName). (t == x.origin && i == x.statement) && leg_eq (Join n) x.leg) h.1 ∙ and_right (t == t && i == i) (n == h.0) (ne_eqb n h.0 (let less = h.2 in λ same. absurd (omega (arith, less, same))))

  join-fresh : (n : ℕ) (K : List Event) → happened (Copied (message t i (Join n))) (followed K (copies (joins_to t i n))) ≡ happened (Copied (message t i (Join n))) K
  join-fresh n K =
      copies-keep (happened (Copied (message t i (Join n)))) (IsJoin t i n)
      (λ m L own. happened-other (Copied (message t i (Join n))) (Copy m) L (join-later n m own))
      (joins_to t i n) K (joins-are t i n)

  new-joins : (n : ℕ) (K : List Event) → ((d : ℕ) → d < n → (d == t) ≡ false → happened (Copied (message t i (Join d))) K ≡ false) → copy_each K (joins_to t i n) ≡ followed K (copies (joins_to t i n))
  new-joins zero K fresh = ap (copy_each K) joins-none ∙ no-copy K ∙ sym (followed-none K) ∙ ap (λ ms. followed K (copies ms)) (sym joins-none)
  new-joins (suc n) K fresh =
      let xs = joins_to t i n in
      let L = followed K (copies xs) in
      ap (copy_each K) (joins-more n)
      ∙ copy_each-append K xs (last_join n)
      ∙ ap (λ M. copy_each M (last_join n)) (new-joins n K (λ d l apart. fresh d (let m : d < suc n = omega arith in m) apart))
      ∙ elim (n == t) as (λ b. (n == t) ≡ b → copy_each L (cond b [] (message t i (Join n) ∷ [])) ≡ followed L (copies (cond b [] (message t i (Join n) ∷ [])))) [
        | true ↦ λ same. no-copy L ∙ sym (followed-none L)
        | false ↦ λ apart. new-copy L (message t i (Join n)) (join-fresh n K ∙ fresh n (let m : n < suc n = omega arith in m) apart)
      ] refl
      ∙ sym (ap (λ ms. followed K (copies ms)) (joins-more n) ∙ ap (followed K) (copies-append xs (last_join n)) ∙ followed-append K (copies xs) (copies (last_join n)))

-- ---- all statements, one after another

module _ (script : Script) (rules : Rules) (r : Run) (together : JoinsAreCopiedTogether script rules r) (t : ℕ) where
  abbrev J : List Event
  J = r.journal

  abbrev copied_first : ℕ → List Event
  copied_first n = copy_each J (flat_map (to_copy_of script J t) (numbers_below n))

  abbrev list_first : ℕ → List Event
  list_first n = followed J (all_copies script J t (below n (is_uncopied script J t)))

  copied-more : (n : ℕ) → copied_first (suc n) ≡ copy_each (copied_first n) (to_copy_of script J t n)
  unfolding numbers_below below
  copied-more n = ap (copy_each J) (flat_map-push (to_copy_of script J t) (numbers_below n) n) ∙ copy_each-append J (flat_map (to_copy_of script J t) (numbers_below n)) (to_copy_of script J t n)

  fresh-still : (n : ℕ) (l : Leg) → happened (Copied (message t n l)) (list_first n) ≡ happened (Copied (message t n l)) J
  fresh-still n l = not-among script t J J n l (below n (is_uncopied script J t)) (below-bound n (is_uncopied script J t) n (omega arith))

  -- Where one message of a statement waits, all do: its data are one, and its Joins are copied together.
  own-new : (n : ℕ) → is_uncopied script J t n ≡ true → copy_each (list_first n) (to_copy_of script J t n) ≡ followed (list_first n) (copies_of script J t n)
  own-new n =
      let K = list_first n in
      let New = λ (ms : List MsgName). list_any (λ m. not (happened (Copied m) J)) ms ≡ true → copy_each K ms ≡ followed K (copies ms) in
      cond_both (is_data (statement script t n) && happened (Issued t n) J) (message t n Go ∷ []) (cond (has_join (statement script t n) && happened (Entered t n) J) (joins script t n) []) New
      (λ _ waits. new-copy K (message t n Go) (fresh-still n Go ∙ not-true _ (first (not (happened (Copied (message t n Go)) J)) waits)))
      (λ _. cond_both (has_join (statement script t n) && happened (Entered t n) J) (joins script t n) [] New
      (λ _ waits.
      let some = any-all (λ m. not (happened (Copied m) J)) (IsJoin t n script.tasks) (joins script t n) (joins-are t n script.tasks) waits in
      let x = some.1 in
      let fresh : happened (Copied (message t n (Join x.0))) J ≡ false = ap (λ m. happened (Copied m) J) (sym x.1) ∙ not-true _ some.2 in
      new-joins t n script.tasks K (λ d l apart. fresh-still n (Join d) ∙ together t n d x.0 l x.2 apart x.3 ∙ fresh))
      (λ _ waits. absurd (false≢true waits)))
    where
      first : (b : Bool) → (b || false) ≡ true → b ≡ true
      first true h = refl
      first false h = h

  copies-first : (n : ℕ) → copied_first n ≡ list_first n
  unfolding numbers_below below followed copy_each
  copies-first zero = refl
  copies-first (suc n) =
      let p = is_uncopied script J t in
      let K = list_first n in
      let ms = to_copy_of script J t n in
      copied-more n
      ∙ ap (λ L. copy_each L ms) (copies-first n)
      ∙ elim (p n) as (λ b. p n ≡ b → copy_each K ms ≡ followed J (all_copies script J t (cond b (below n p ++ n ∷ []) (below n p)))) [
        | true ↦ λ waits. own-new n waits ∙ sym (followed-push script J J t (below n p) n)
        | false ↦ λ none. old-copies K ms (all-weaker (λ m. happened (Copied m) J ≡ true) (λ m. happened (Copied m) K ≡ true) (λ m h. happened-followed (Copied m) (all_copies script J t (below n p)) J h) ms (none-left J ms none))
      ] refl

  pub copies-all : copy_each J (ready script J t) ≡ followed J (all_copies script J t (below (length (statements script t)) (is_uncopied script J t)))
  unfolding ready
  copies-all = copies-first (length (statements script t))

-- A set of numbers without its least one.
pub push-parts : (xs : List ℕ) (x i : ℕ) (rest : List ℕ) → xs ++ x ∷ [] ≡ i ∷ rest → ((xs ≡ []) × (x ≡ i) × (rest ≡ [])) ⊎ ((ys : List ℕ) × (xs ≡ i ∷ ys) × (rest ≡ ys ++ x ∷ []))
push-parts [] x i rest e = inl (refl, (let q : x ≡ i = cc in q), (let q : rest ≡ [] = cc in q))
push-parts (y ∷ ys) x i rest e = inr (ys, (let q : y ∷ ys ≡ i ∷ ys = cc in q), (let q : rest ≡ ys ++ x ∷ [] = cc in q))

below-same : (n : ℕ) (p q : ℕ → Bool) → ((k : ℕ) → k < n → q k ≡ p k) → below n q ≡ below n p
unfolding below
below-same zero p q h = refl
below-same (suc n) p q h = (λ i. cond (h n (let l : n < suc n = omega arith in l) i) (below-same n p q (λ k l. h k (let m : k < suc n = omega arith in m)) i ++ n ∷ []) (below-same n p q (λ k l. h k (let m : k < suc n = omega arith in m)) i))

pub below-less : (n : ℕ) (p q : ℕ → Bool) (i : ℕ) (rest : List ℕ) → below n p ≡ i ∷ rest → q i ≡ false → ((k : ℕ) → k ≢ i → q k ≡ p k) → below n q ≡ rest
unfolding below
below-less zero p q i rest e f h = absurd (cc)
below-less (suc n) p q i rest e f h =
    elim (p n) as (λ b. p n ≡ b → cond b (below n p ++ n ∷ []) (below n p) ≡ i ∷ rest → cond (q n) (below n q ++ n ∷ []) (below n q) ≡ rest) [
      | true ↦ λ pn e'.
          ⊎_elim
          (λ (first : (below n p ≡ []) × (n ≡ i) × (rest ≡ [])).
          cond-false (q n) (below n q ++ n ∷ []) (below n q) (ap q first.1 ∙ f)
          ∙ below-same n p q (λ k l. h k (λ same. let e1 = first.1 in absurd (omega (arith, l, same, e1))))
          ∙ first.0 ∙ sym first.2)
          (λ (later : (ys : List ℕ) × (below n p ≡ i ∷ ys) × (rest ≡ ys ++ n ∷ [])).
          let small = below-bound n p n (omega arith) in
          let lt : i < n = (subst (AllByRecursion (λ k. k < n)) later.1 small).0 in
          cond-true (q n) (below n q ++ n ∷ []) (below n q) (h n (λ same. absurd (omega (arith, lt, same))) ∙ pn)
          ∙ ap (λ xs. xs ++ n ∷ []) (below-less n p q i later.0 later.1 f h)
          ∙ sym later.2)
          (push-parts (below n p) n i rest e')
      | false ↦ λ pn e'.
          let small = below-bound n p n (omega arith) in
          let lt : i < n = (subst (AllByRecursion (λ k. k < n)) e' small).0 in
          cond-false (q n) (below n q ++ n ∷ []) (below n q) (h n (λ same. absurd (omega (arith, lt, same))) ∙ pn)
          ∙ below-less n p q i rest e' f h
    ] refl e
