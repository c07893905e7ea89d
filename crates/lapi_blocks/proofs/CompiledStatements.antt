-- Where each statement of a compiled plan stands: its operation, its place among the statements of that, and its epoch.
use Rattle.std.proofs.Common.{◌≡◌, ◌⊎◌, ℕ, zero, suc, ◌+◌, ◌-◌, ◌<◌, ◌≤◌, ◌==◌, Bool, true, false, cond, List, [], ◌∷◌, ◌++◌, length, map, get_or, Option, Some, None, refl, sym, ap, ◌∙◌, subst, ⊎_elim, inl, inr, arith}
use Rattle.std.specs.Prelude.{nat_lt, slice_get, filter}
use Rattle.std.specs.List.{AllByRecursion}
use Rattle.std.proofs.lemmas.Bool.{false≢true, cond-true, cond_both, eqb-true, cases_lt}
use Rattle.std.proofs.lemmas.List.{get_or-map, get_or_append_left, get_or-append_right, length-append, length-map, length_push}
use Rattle.lapi_base.specs.declared.statement.Statement.{Statement}
use Rattle.lapi_base.specs.declared.statement.Statement.TheVariants.{Store, Fence, Gfence}
use Rattle.lapi_base.specs.Record.Below.{below}
use Rattle.lapi_base.specs.Record.Operations.{numbers_below, statements, statement, is_gfence}
use Rattle.lapi_base.proofs.BelowLaws.{below-all}
use Rattle.lapi_base.proofs.TestLaws.{eqb-refl}
use Rattle.lapi_base.proofs.UptoLaws.{numbers_below-length}
use Rattle.lapi_laws.proofs.Turns.{below-place}
use Rattle.lapi_base.proofs.ListLaws.{get-some, some-same}
use Rattle.lapi_blocks.specs.declared.plan.Op.{Op}
use Rattle.lapi_blocks.specs.declared.plan.Op.TheVariants.{Set, Get}
use Rattle.lapi_blocks.specs.declared.plan.Plan.{Plan}
use Rattle.lapi_epochs.specs.Epochs.{epoch, Has}
use Rattle.lapi_blocks.specs.declared.patch.Patch.{Patch}
use Rattle.lapi_blocks.specs.Plans.{patch_of, tasks_of, part_of, is_nonempty, area, moves, owners, own_statements, op_statements, first_statements, compiled}
use Rattle.lapi_epochs.proofs.EpochOrder.{epoch-fence, epoch-other}
use Rattle.lapi_epochs.proofs.GatheredPieces.{numbers_below-nth}

-- ---- lists

below-count : (n : ℕ) (p : ℕ → Bool) → length (below n p) ≤ n
unfolding below
below-count zero p = omega arith
below-count (suc n) p =
    let old = below-count n p in
    cond_both (p n) (below n p ++ n ∷ []) (below n p) (λ xs. length xs ≤ suc n) (λ _. let len = length_push (below n p) n in more (length (below n p ++ n ∷ [])) (length (below n p)) n len old) (λ _. omega arith)
  where
    more : (m l n : ℕ) → m ≡ l + 1 → l ≤ n → m ≤ suc n
    more m l n a b = omega arith

pub all-nth : {X : Type 0} (P : X → Type 0) (xs : List X) (i : ℕ) (d : X) → AllByRecursion P xs → i < length xs → P (get_or xs i d)
all-nth P [] i d h l = absurd (omega arith)
all-nth P (x ∷ xs) zero d h l = h.0
all-nth P (x ∷ xs) (suc i) d h l = all-nth P xs i d h.1 (omega arith)

pub nth-of_get : {X : Type 0} (xs : List X) (i : ℕ) (d x : X) → slice_get xs i ≡ Some x → (get_or xs i d ≡ x) × (i < length xs)
nth-of_get [] i d x h = absurd (cc)
nth-of_get (y ∷ xs) zero d x h = (some-same y x h, omega arith)
nth-of_get (y ∷ xs) (suc i) d x h = let r = nth-of_get xs i d x h in (r.0, omega (arith, r.1))

nth-last : (xs : List Statement) (s d : Statement) → get_or (xs ++ s ∷ []) (length xs) d ≡ s
nth-last xs s d =
    let z : length xs - length xs ≡ 0 = omega arith in
    get_or-append_right xs (s ∷ []) (length xs) (length xs) d refl (omega arith) ∙ ap (λ k. get_or (s ∷ []) k d) z

pub all-map : {X Y : Type 0} (P : Y → Type 0) (f : X → Y) (xs : List X) → ((x : X) → P (f x)) → AllByRecursion P (map f xs)
all-map P f [] h = tt
all-map P f (x ∷ xs) h = (h x, all-map P f xs h)

-- ---- operations

abbrev pub is_set : Op → Bool
is_set (Set task row col rows cols values) = true
is_set (Get task row col rows cols) = false

abbrev pub values_of : Op → List ℕ
values_of (Set task row col rows cols values) = values
values_of (Get task row col rows cols) = []

moves-no_fence : (plan : Plan) (k : ℕ) (op : Op) (part : Patch) → is_gfence (moves plan k op part) ≡ false
moves-no_fence plan k (Set task row col rows cols values) part = refl
moves-no_fence plan k (Get task row col rows cols) part = refl

own-no_fence : (plan : Plan) (k : ℕ) (op : Op) → AllByRecursion (λ s. is_gfence s ≡ false) (own_statements plan k op)
own-no_fence plan k (Set task row col rows cols values) = let op = Set task row col rows cols values in (refl, all-map (λ s. is_gfence s ≡ false) (λ t. moves plan k op (part_of plan (patch_of op) t)) (owners plan (patch_of op)) (λ t. moves-no_fence plan k op (part_of plan (patch_of op) t)))
own-no_fence plan k (Get task row col rows cols) = let op = Get task row col rows cols in all-map (λ s. is_gfence s ≡ false) (λ t. moves plan k op (part_of plan (patch_of op) t)) (owners plan (patch_of op)) (λ t. moves-no_fence plan k op (part_of plan (patch_of op) t))

op-no_fence : (plan : Plan) (k : ℕ) (o : Option Op) (t : ℕ) → AllByRecursion (λ s. is_gfence s ≡ false) (op_statements plan k o t)
op-no_fence plan k None t = tt
op-no_fence plan k (Some op) t = cond_both (t == (patch_of op).task) (own_statements plan k op) [] (AllByRecursion (λ s. is_gfence s ≡ false)) (λ _. own-no_fence plan k op) (λ _. tt)

module _ (plan : Plan) where
  -- the statements of operation k at task a before its fence, and where they begin
  abbrev pub body : (k a : ℕ) → List Statement
  body k a = op_statements plan k (slice_get plan.ops k) a

  abbrev pub begin : (k a : ℕ) → ℕ
  begin k a = length (first_statements plan k a)

  abbrev pub round : (k a : ℕ) → List Statement
  round k a = body k a ++ Gfence ∷ []

  pub round-length : (k a : ℕ) → length (round k a) ≡ length (body k a) + 1
  round-length k a = length_push (body k a) Gfence

  pub begin-more : (k a : ℕ) → begin (suc k) a ≡ begin k a + length (round k a)
  unfolding first_statements
  begin-more k a = length-append (first_statements plan k a) (round k a)

  first-more : (k a : ℕ) → first_statements plan (suc k) a ≡ first_statements plan k a ++ round k a
  unfolding first_statements
  first-more k a = refl

  pub begin-zero : (a : ℕ) → begin 0 a ≡ 0
  unfolding first_statements
  begin-zero a = refl

  -- every statement is one of some operation's
  pub find : (n a i : ℕ) → i < begin n a → (k : ℕ) × (o : ℕ) × (k < n) × (o < length (round k a)) × (i ≡ begin k a + o) × (get_or (first_statements plan n a) i Fence ≡ get_or (round k a) o Fence)
  find zero a i l = absurd (let z = begin-zero a in omega arith)
  find (suc n) a i l =
      let more = begin-more n a in
      ⊎_elim
      (λ (lt : i < begin n a).
      let r = find n a i lt in
      (r.0, r.1, omega (arith, r.2), r.3, r.4, ap (λ xs. get_or xs i Fence) (first-more n a) ∙ get_or_append_left (first_statements plan n a) (round n a) Fence i lt ∙ r.5))
      (λ (ge : begin n a ≤ i).
      (n, i - begin n a, omega arith, omega arith, omega arith, ap (λ xs. get_or xs i Fence) (first-more n a) ∙ get_or-append_right (first_statements plan n a) (round n a) (begin n a) i Fence refl ge))
      (cases_lt i (begin n a))

  -- and each of these stands there
  pub stands : (n k a o : ℕ) → k < n → o < length (round k a) → (begin k a + o < begin n a) × (get_or (first_statements plan n a) (begin k a + o) Fence ≡ get_or (round k a) o Fence)
  stands zero k a o l m = absurd (omega arith)
  stands (suc n) k a o l m =
      let more = begin-more n a in
      ⊎_elim
      (λ (lt : k < n).
      let r = stands n k a o lt m in
      (omega (arith, r.0), ap (λ xs. get_or xs (begin k a + o) Fence) (first-more n a) ∙ get_or_append_left (first_statements plan n a) (round n a) Fence (begin k a + o) r.0 ∙ r.1))
      (λ (ge : n ≤ k).
      let e : k ≡ n = omega arith in
      subst (λ j. o < length (round j a) → (begin j a + o < begin (suc n) a) × (get_or (first_statements plan (suc n) a) (begin j a + o) Fence ≡ get_or (round j a) o Fence)) (sym e)
      (λ m'.
      let z : begin n a + o - begin n a ≡ o = omega arith in
      let q : begin n a ≤ begin n a + o = omega arith in
      (omega arith, ap (λ xs. get_or xs (begin n a + o) Fence) (first-more n a) ∙ get_or-append_right (first_statements plan n a) (round n a) (begin n a) (begin n a + o) Fence refl q ∙ ap (λ j. get_or (round n a) j Fence) z))
      m)
      (cases_lt k n)

  -- ---- in the script

  abbrev pub count : ℕ
  count = length plan.ops

  pub statements-are : (a : ℕ) → a < tasks_of plan → statements (compiled plan) a ≡ first_statements plan count a
  statements-are a l =
      get_or-map (first_statements plan count) (numbers_below (tasks_of plan)) a 0 [] (let q : a < length (numbers_below (tasks_of plan)) = omega (arith, numbers_below-length (tasks_of plan)) in q)
      ∙ ap (first_statements plan count) (numbers_below-nth (tasks_of plan) a l)

  pub statement-is : (a i : ℕ) → a < tasks_of plan → statement (compiled plan) a i ≡ get_or (first_statements plan count a) i Fence
  unfolding statement
  statement-is a i l = ap (λ xs. get_or xs i Fence) (statements-are a l)

  -- the statement of operation k at place o
  pub at-place : (k a o : ℕ) → a < tasks_of plan → k < count → o < length (round k a) → Has (compiled plan) a (begin k a + o) × (statement (compiled plan) a (begin k a + o) ≡ get_or (round k a) o Fence)
  at-place k a o t l m =
      let r = stands count k a o l m in
      let len = ap length (statements-are a t) in
      ((t, omega (arith, r.0)), statement-is a (begin k a + o) t ∙ r.1)

  -- one before the fence, and the fence
  pub in-body : (k a o : ℕ) → o < length (body k a) → get_or (round k a) o Fence ≡ get_or (body k a) o Fence
  in-body k a o l = get_or_append_left (body k a) (Gfence ∷ []) Fence o l

  pub at-fence : (k a : ℕ) → get_or (round k a) (length (body k a)) Fence ≡ Gfence
  at-fence k a = nth-last (body k a) Gfence Fence

  -- ---- epochs

  epoch-within : (k a o : ℕ) → a < tasks_of plan → k < count → o ≤ length (body k a) → epoch (compiled plan) a (begin k a + o) ≡ epoch (compiled plan) a (begin k a)
  epoch-within k a zero t l m = let e : begin k a + 0 ≡ begin k a = omega arith in ap (epoch (compiled plan) a) e
  epoch-within k a (suc o) t l m =
      let len = round-length k a in
      let here = at-place k a o t l (omega arith) in
      let other = ap is_gfence (here.1 ∙ in-body k a o (omega arith)) ∙ all-nth (λ s. is_gfence s ≡ false) (body k a) o Fence (op-no_fence plan k (slice_get plan.ops k) a) (omega arith) in
      let e : begin k a + suc o ≡ suc (begin k a + o) = omega arith in
      ap (epoch (compiled plan) a) e ∙ epoch-other (compiled plan) a (begin k a + o) other ∙ epoch-within k a o t l (omega arith)

  pub epoch-begin : (k a : ℕ) → a < tasks_of plan → k ≤ count → epoch (compiled plan) a (begin k a) ≡ k
  unfolding epoch
  epoch-begin zero a t l = ap (epoch (compiled plan) a) (begin-zero a)
  epoch-begin (suc k) a t l =
      let len = round-length k a in
      let more = begin-more k a in
      let here = at-place k a (length (body k a)) t (omega arith) (omega arith) in
      let fence = ap is_gfence (here.1 ∙ at-fence k a) in
      let e : begin (suc k) a ≡ suc (begin k a + length (body k a)) = omega arith in
      ap (epoch (compiled plan) a) e ∙ epoch-fence (compiled plan) a (begin k a + length (body k a)) fence ∙ ap (λ n. suc n) (epoch-within k a (length (body k a)) t (omega arith) (omega arith) ∙ epoch-begin k a t (omega arith))

  pub epoch-is : (k a o : ℕ) → a < tasks_of plan → k < count → o < length (round k a) → epoch (compiled plan) a (begin k a + o) ≡ k
  epoch-is k a o t l m = let len = round-length k a in epoch-within k a o t l (omega arith) ∙ epoch-begin k a t (omega arith)

  -- ---- what they are

  -- a store of the values, before all others
  abbrev pub IsStored : (k : ℕ) → Op → (o : ℕ) → Statement → Type 0
  IsStored k op o s = (is_set op ≡ true) × (o ≡ 0) × (s ≡ Store (area k) (values_of op))

  -- the move of a part, which for a set comes after the store
  abbrev pub IsMoved : (k : ℕ) → Op → (o : ℕ) → Statement → Type 0
  IsMoved k op o s = (w : ℕ) × (w < tasks_of plan) × (is_nonempty (part_of plan (patch_of op) w) ≡ true) × (s ≡ moves plan k op (part_of plan (patch_of op) w)) × (is_set op ≡ true → 0 < o)

  moved-at : (k : ℕ) (op : Op) (o : ℕ) → o < length (owners plan (patch_of op)) → (w : ℕ) × (w < tasks_of plan) × (is_nonempty (part_of plan (patch_of op) w) ≡ true) × (get_or (map (λ t. moves plan k op (part_of plan (patch_of op) t)) (owners plan (patch_of op))) o Fence ≡ moves plan k op (part_of plan (patch_of op) w))
  unfolding owners
  moved-at k op o l =
      let ws = owners plan (patch_of op) in
      let w = get_or ws o 0 in
      let f = all-nth (λ t. (t < tasks_of plan) × (is_nonempty (part_of plan (patch_of op) t) ≡ true)) ws o 0 (below-all (tasks_of plan) (λ t. is_nonempty (part_of plan (patch_of op) t))) l in
      (w, f.0, f.1, get_or-map (λ t. moves plan k op (part_of plan (patch_of op) t)) ws o 0 Fence l)

  own-at : (k : ℕ) (op : Op) (o : ℕ) → o < length (own_statements plan k op) → IsStored k op o (get_or (own_statements plan k op) o Fence) ⊎ IsMoved k op o (get_or (own_statements plan k op) o Fence)
  own-at k (Set task row col rows cols values) zero l = inl (refl, refl, refl)
  own-at k (Set task row col rows cols values) (suc o) l =
      let op = Set task row col rows cols values in
      let r = moved-at k op o (let len = length-map (owners plan (patch_of op)) (λ t. moves plan k op (part_of plan (patch_of op) t)) in omega arith) in
      inr (r.0, r.1, r.2, r.3, λ _. omega arith)
  own-at k (Get task row col rows cols) o l =
      let op = Get task row col rows cols in
      let r = moved-at k op o (let len = length-map (owners plan (patch_of op)) (λ t. moves plan k op (part_of plan (patch_of op) t)) in omega arith) in
      inr (r.0, r.1, r.2, r.3, λ s. absurd (false≢true s))

  -- a statement of a compiled plan is a fence, or one of its operation's at the operation's task
  pub record Stand (a i : ℕ) : Type 0 where
    pub k : ℕ
    pub o : ℕ
    pub op : Op
    pub room : k < count
    pub is_op : slice_get plan.ops k ≡ Some op
    pub place : i ≡ begin k a + o
    pub epoch_is : epoch (compiled plan) a i ≡ k
    pub kind : (statement (compiled plan) a i ≡ Gfence) ⊎ ((a ≡ (patch_of op).task) × (IsStored k op o (statement (compiled plan) a i) ⊎ IsMoved k op o (statement (compiled plan) a i)))

  body-kind : (k a o : ℕ) (op : Op) (s : Statement) → s ≡ get_or (op_statements plan k (Some op) a) o Fence → o < length (op_statements plan k (Some op) a) → (a ≡ (patch_of op).task) × (IsStored k op o s ⊎ IsMoved k op o s)
  body-kind k a o op s e l =
      elim (a == (patch_of op).task) as (λ b. (a == (patch_of op).task) ≡ b → s ≡ get_or (cond b (own_statements plan k op) []) o Fence → o < length (cond b (own_statements plan k op) []) → (a ≡ (patch_of op).task) × (IsStored k op o s ⊎ IsMoved k op o s)) [
        | true ↦ λ here e' l'. (eqb-true a (patch_of op).task here, subst (λ x. IsStored k op o x ⊎ IsMoved k op o x) (sym e') (own-at k op o l'))
        | false ↦ λ _ e' l'. absurd (omega arith)
      ] refl e l

  pub stand : (a i : ℕ) → Has (compiled plan) a i → Stand a i
  stand a i has =
      let t = has.0 in
      let len = ap length (statements-are a t) in
      let l : i < begin count a = omega (arith, has.1) in
      let f = find count a i l in
      let k = f.0 in
      let o = f.1 in
      let got = get-some plan.ops k f.2 in
      let is = statement-is a i t ∙ f.5 in
      let size = round-length k a in record {
        k = k;
        o = o;
        op = got.0;
        room = f.2;
        is_op = got.1;
        place = f.4;
        epoch_is = ap (epoch (compiled plan) a) f.4 ∙ epoch-is k a o t f.2 f.3;
        kind =
            ⊎_elim
            (λ (lt : o < length (body k a)).
            let same = is ∙ in-body k a o lt in
            inr (body-kind k a o got.0 (statement (compiled plan) a i) (subst (λ x. statement (compiled plan) a i ≡ get_or (op_statements plan k x a) o Fence) got.1 same) (subst (λ x. o < length (op_statements plan k x a)) got.1 lt)))
            (λ (ge : length (body k a) ≤ o).
            let e : o ≡ length (body k a) = omega (arith, f.3) in
            inl (is ∙ ap (λ j. get_or (round k a) j Fence) e ∙ at-fence k a))
            (cases_lt o (length (body k a)));
      }

  -- ---- that they are there

  pub body-own : (k a : ℕ) (op : Op) → slice_get plan.ops k ≡ Some op → a ≡ (patch_of op).task → body k a ≡ own_statements plan k op
  body-own k a op e h = ap (λ x. op_statements plan k x a) e ∙ cond-true (a == (patch_of op).task) (own_statements plan k op) [] (ap (λ x. a == x) (sym h) ∙ eqb-refl a)

  -- place o of the operation's own statements
  pub own-there : (k o : ℕ) (op : Op) → slice_get plan.ops k ≡ Some op → (patch_of op).task < tasks_of plan → o < length (own_statements plan k op) →
      let a = (patch_of op).task in
      Has (compiled plan) a (begin k a + o) × (epoch (compiled plan) a (begin k a + o) ≡ k) × (statement (compiled plan) a (begin k a + o) ≡ get_or (own_statements plan k op) o Fence)
  own-there k o op e t l =
      let a = (patch_of op).task in
      let same = body-own k a op e refl in
      let room = (nth-of_get plan.ops k op op e).1 in
      let size = round-length k a in
      let len = ap length same in
      let lt : o < length (body k a) = omega arith in
      let here = at-place k a o t room (omega arith) in
      (here.0, epoch-is k a o t room (omega arith), here.1 ∙ in-body k a o lt ∙ ap (λ xs. get_or xs o Fence) same)

  pub store-there : (k : ℕ) (op : Op) → slice_get plan.ops k ≡ Some op → (patch_of op).task < tasks_of plan → is_set op ≡ true →
      let a = (patch_of op).task in
      Has (compiled plan) a (begin k a + 0) × (epoch (compiled plan) a (begin k a + 0) ≡ k) × (statement (compiled plan) a (begin k a + 0) ≡ Store (area k) (values_of op))
  store-there k (Set task row col rows cols values) e t h = own-there k 0 (Set task row col rows cols values) e t (omega arith)
  store-there k (Get task row col rows cols) e t h = absurd (false≢true h)

  -- the owner's place
  owner-place : (p : Patch) (w : ℕ) → w < tasks_of plan → is_nonempty (part_of plan p w) ≡ true → (j : ℕ) × (j < length (owners plan p)) × (get_or (owners plan p) j 0 ≡ w)
  unfolding owners
  owner-place p w l h =
      let test = λ (t : ℕ). is_nonempty (part_of plan p t) in
      let j = length (filter (λ x. nat_lt x w) (below (tasks_of plan) test)) in
      let r = nth-of_get (below (tasks_of plan) test) j 0 w (below-place (tasks_of plan) test w l h) in
      (j, r.1, r.0)

  own-place : (k : ℕ) (op : Op) (j : ℕ) → j < length (owners plan (patch_of op)) → (o : ℕ) × (o < length (own_statements plan k op)) × (get_or (own_statements plan k op) o Fence ≡ moves plan k op (part_of plan (patch_of op) (get_or (owners plan (patch_of op)) j 0)))
  own-place k (Set task row col rows cols values) j l =
      let op = Set task row col rows cols values in
      let f = λ (t : ℕ). moves plan k op (part_of plan (patch_of op) t) in
      let len = length-map (owners plan (patch_of op)) f in
      (suc j, omega arith, get_or-map f (owners plan (patch_of op)) j 0 Fence l)
  own-place k (Get task row col rows cols) j l =
      let op = Get task row col rows cols in
      let f = λ (t : ℕ). moves plan k op (part_of plan (patch_of op) t) in
      let len = length-map (owners plan (patch_of op)) f in
      (j, omega arith, get_or-map f (owners plan (patch_of op)) j 0 Fence l)

  pub move-there : (k : ℕ) (op : Op) (w : ℕ) → slice_get plan.ops k ≡ Some op → (patch_of op).task < tasks_of plan → w < tasks_of plan → is_nonempty (part_of plan (patch_of op) w) ≡ true →
      let a = (patch_of op).task in
      (i : ℕ) × Has (compiled plan) a i × (epoch (compiled plan) a i ≡ k) × (statement (compiled plan) a i ≡ moves plan k op (part_of plan (patch_of op) w))
  move-there k op w e t l h =
      let a = (patch_of op).task in
      let j = owner-place (patch_of op) w l h in
      let o = own-place k op j.0 j.1 in
      let r = own-there k o.0 op e t o.1 in
      (begin k a + o.0, r.0, r.1, r.2 ∙ o.2 ∙ ap (λ x. moves plan k op (part_of plan (patch_of op) x)) j.2)

  -- how many an operation has: a store, and a move for each block
  pub own-few : (k : ℕ) (op : Op) → length (own_statements plan k op) ≤ 1 + tasks_of plan
  unfolding owners
  own-few k (Set task row col rows cols values) =
      let op = Set task row col rows cols values in
      let len = length-map (owners plan (patch_of op)) (λ t. moves plan k op (part_of plan (patch_of op) t)) in
      let few = below-count (tasks_of plan) (λ t. is_nonempty (part_of plan (patch_of op) t)) in
      omega arith
  own-few k (Get task row col rows cols) =
      let op = Get task row col rows cols in
      let len = length-map (owners plan (patch_of op)) (λ t. moves plan k op (part_of plan (patch_of op) t)) in
      let few = below-count (tasks_of plan) (λ t. is_nonempty (part_of plan (patch_of op) t)) in
      omega arith
