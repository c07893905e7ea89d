-- What was issued or entered was accepted: no test of the refusals holds of it, and so of all whose messages were copied.
use Rattle.std.proofs.Common.{◌≡◌, ℕ, ◌+◌, ◌%◌, ◌<◌, ◌≤◌, ◌==◌, Bool, true, false, ◌&&◌, not, List, [], ◌∷◌, ◌++◌, length, Option, Some, None, refl, ◌||◌, ap, ◌∙◌}
use Rattle.std.specs.Prelude.{nat_lt, unwrap_or, option_to_list}
use Rattle.std.specs.List.{AllByRecursion, list_any, zip}
use Rattle.std.proofs.lemmas.Bool.{true≢false, and_parts, or_parts, eqb-true, leb-true, ltb-true, ltb-false, cond-false}
use Rattle.lapi_base.specs.declared.script.Script.{Script}
use Rattle.lapi_base.specs.declared.address.Addr.{Addr}
use Rattle.lapi_base.specs.declared.piece.Piece.{Piece}
use Rattle.lapi_base.specs.declared.statement.Statement.{Statement}
use Rattle.lapi_base.specs.declared.rule.Rules.{Rules}
use Rattle.lapi_base.specs.declared.message.Leg.{Leg}
use Rattle.lapi_base.specs.declared.message.Leg.TheVariants.{Go, Join}
use Rattle.lapi_base.specs.declared.message.MsgName.{MsgName}
use Rattle.lapi_base.specs.declared.event.Event.{Event}
use Rattle.lapi_base.specs.declared.event.Event.TheVariants.{Issue, Enter}
use Rattle.lapi_base.specs.Record.Names.{EventKey, Issued, Entered, Copied, Landed, Begun, Ended, key_of, happened, message}
use Rattle.lapi_base.specs.Record.Operations.{statements, statement, address, target_pieces, origin_pieces, is_rmw, target_of, target, own_counter, tgt_counter, org_counter, cmpl_counter, is_am}
use Rattle.lapi_base.specs.Record.Handlers.{handler_of, user_header, has_completion}
use Rattle.lapi_base.specs.Record.Refusals.{option_any, is_known, lies_within, counters_of, is_vector, too_long, is_misaligned, refusal_by, refusal_of, first_reason}
use Rattle.lapi_base.specs.Record.Atomic.{Atomic, Keeps, needs, copy_needs, only_if, to_land, has_statement}
use Rattle.lapi_base.specs.Laws.Receiving.{NamesCounter}
use Rattle.lapi_base.proofs.ListLaws.{all-weaker}
use Rattle.lapi_laws.proofs.Backward.{closed, shown}
use Rattle.lapi_laws.proofs.Shorts.{none-tests, last-of}
use Rattle.lapi_base.specs.declared.refusal.Refusal.{Refusal}
use Rattle.lapi_base.specs.Laws.Headline.{HoldsOfAtomic}
use Rattle.lapi_base.specs.Laws.Copying.{CopiedAreAccepted}

-- what no element passes
any-none : {X : Type 0} (t : X → Bool) (xs : List X) → list_any t xs ≡ false → AllByRecursion (λ x. t x ≡ false) xs
any-none t [] h = tt
any-none t (x ∷ xs) h = let p = or_parts (t x) (list_any t xs) h in (p.0, any-none t xs p.1)

not-false : (b : Bool) → not b ≡ false → b ≡ true
not-false true h = refl
not-false false h = absurd (true≢false h)

-- where the first of two tests holds and not both, the second doesn't
not-both : (a b : Bool) → a ≡ true → (a && b) ≡ false → b ≡ false
not-both true b h e = e
not-both false b h e = absurd (true≢false (let x : true ≡ false = cc in x))

-- reasons of which none applies
no-tests : (lines : List (Bool × Refusal)) → AllByRecursion (λ line. line.0 ≡ false) lines → first_reason lines ≡ None
unfolding first_reason
no-tests [] h = refl
no-tests (line ∷ lines) h = cond-false line.0 (Some line.1) (first_reason lines) h.0 ∙ no-tests lines h.1

none-unknown : (ps : List Piece) → list_any (λ (p : Piece). not true) ps ≡ false
none-unknown [] = refl
none-unknown (p ∷ ps) = none-unknown ps

split-all : {X : Type 0} (P : X → Type 0) (xs ys : List X) → AllByRecursion P (xs ++ ys) → AllByRecursion P xs × AllByRecursion P ys
split-all P [] ys h = (tt, h)
split-all P (x ∷ xs) ys h = let r = split-all P xs ys h.1 in ((h.0, r.0), r.1)

module _ (script : Script) where
  counter-is : (o : Option ℕ) → AllByRecursion (λ c. not (nat_lt c script.counters) ≡ false) (option_to_list o) → NamesCounter script o
  counter-is None h = tt
  counter-is (Some c) h = ltb-true c script.counters (not-false (nat_lt c script.counters) h.0)

  -- a piece lies within the memory
  abbrev pub LiesWithin : ℕ → Piece → Type 0
  LiesWithin d p = address script d p.at + p.len ≤ script.memory

  abbrev pub IsAligned : ℕ → Piece → Type 0
  IsAligned d p = address script d p.at % 4 ≡ 0

  within : (d : ℕ) (p : Piece) → not (lies_within script d p) ≡ false → LiesWithin d p
  within d p h = leb-true (address script d p.at + p.len) script.memory (not-false (lies_within script d p) h)

  aligned : (d : ℕ) (p : Piece) → is_misaligned script d p ≡ false → IsAligned d p
  aligned d p h = eqb-true (address script d p.at % 4) 0 (not-false (address script d p.at % 4 == 0) h)

  -- where every address is known
  known-within : (known : Addr → Bool) (d : ℕ) (ps : List Piece) → list_any (λ (p : Piece). known p.at && not (lies_within script d p)) ps ≡ false → list_any (λ (p : Piece). not (known p.at)) ps ≡ false → AllByRecursion (LiesWithin d) ps
  known-within known d [] h k = tt
  known-within known d (p ∷ ps) h k =
      let x = or_parts (known p.at && not (lies_within script d p)) (list_any (λ (p : Piece). known p.at && not (lies_within script d p)) ps) h in
      let y = or_parts (not (known p.at)) (list_any (λ (p : Piece). not (known p.at)) ps) k in
      (within d p (not-both (known p.at) (not (lies_within script d p)) (not-false (known p.at) y.0) x.0), known-within known d ps x.1 y.1)

  outside-known : (known : Addr → Bool) (d : ℕ) (ps : List Piece) → list_any (λ (p : Piece). known p.at && not (lies_within script d p)) ps ≡ false → list_any (λ (p : Piece). not (known p.at)) ps ≡ false → list_any (λ (p : Piece). true && not (lies_within script d p)) ps ≡ false
  outside-known known d [] h k = refl
  outside-known known d (p ∷ ps) h k =
      let x = or_parts (known p.at && not (lies_within script d p)) (list_any (λ (q : Piece). known q.at && not (lies_within script d q)) ps) h in
      let y = or_parts (not (known p.at)) (list_any (λ (q : Piece). not (known q.at)) ps) k in
      ap (λ b. b || list_any (λ (q : Piece). true && not (lies_within script d q)) ps) (not-both (known p.at) (not (lies_within script d p)) (not-false (known p.at) y.0) x.0) ∙ outside-known known d ps x.1 y.1

  target-is : (o : Option ℕ) (a : ℕ) → a < script.tasks → option_any (λ t. not (nat_lt t script.tasks)) o ≡ false → unwrap_or o a < script.tasks
  target-is None a l h = l
  target-is (Some t) a l h = ltb-true t script.tasks (not-false (nat_lt t script.tasks) h)

  module _ (rules : Rules) where
    -- a statement that no refusal applies to; d is its target
    pub record Accepted (d : ℕ) (s : Statement) : Type 0 where
      pub target : d < script.tasks
      pub to : AllByRecursion (LiesWithin d) (target_pieces s)
      pub from : AllByRecursion (LiesWithin d) (origin_pieces s)
      pub tgt : NamesCounter script (tgt_counter s)
      pub org : NamesCounter script (org_counter s)
      pub cmpl : NamesCounter script (cmpl_counter s)
      pub short : too_long script s ≡ false
      pub handler : is_am s ≡ true → handler_of s < length rules.headers
      pub header : is_am s ≡ true → (length (user_header s) ≤ 64) × (length (user_header s) % 4 ≡ 0)
      pub count : is_vector s ≡ true → length (target_pieces s) ≡ length (origin_pieces s)
      pub lengths : is_vector s ≡ true → AllByRecursion (λ (pq : Piece × Piece). pq.0.len ≡ pq.1.len) (zip (target_pieces s) (origin_pieces s))
      pub words : is_rmw s ≡ true → AllByRecursion (IsAligned d) (target_pieces s) × AllByRecursion (IsAligned d) (origin_pieces s)

    -- what no reason is found for
    accepted : (known : Addr → Bool) (a i : ℕ) → a < script.tasks → refusal_by script rules known a i ≡ None → Accepted (target script a i) (statement script a i)
    unfolding refusal_by
    accepted known a i l h =
        let s = statement script a i in
        let d = target script a i in
        let to = target_pieces s in
        let from = origin_pieces s in
        let tests = none-tests _ h in
        let outside = tests.1.0 in
        let rest = tests.1.1 in
        let counters = any-none (λ c. not (nat_lt c script.counters)) (counters_of s) rest.1.0 in
        let own = option_to_list (own_counter s) in
        let tgt = option_to_list (tgt_counter s) in
        let org = option_to_list (org_counter s) in
        let cmpl = option_to_list (cmpl_counter s) in
        let three = split-all (λ c. not (nat_lt c script.counters) ≡ false) (own ++ tgt ++ org) cmpl counters in
        let two = split-all (λ c. not (nat_lt c script.counters) ≡ false) (own ++ tgt) org three.0 in
        let one = split-all (λ c. not (nat_lt c script.counters) ≡ false) own tgt two.0 in
        let more = rest.1.1 in
        let handlers = more.1.1 in
        let vectors = handlers.1.1 in
        record {
          target = target-is (target_of s) a l tests.0;
          to = known-within known d to outside more.1.0;
          from = all-weaker (λ p. not (lies_within script d p) ≡ false) (LiesWithin d) (within d) from (any-none (λ p. not (lies_within script d p)) from rest.0);
          tgt = counter-is (tgt_counter s) one.1;
          org = counter-is (org_counter s) two.1;
          cmpl = counter-is (cmpl_counter s) three.1;
          short = more.0;
          handler = λ is. ltb-true (handler_of s) (length rules.headers) (not-false (nat_lt (handler_of s) (length rules.headers)) (not-both (is_am s) _ is handlers.0));
          header = λ is.
              let both = or_parts (nat_lt 64 (length (user_header s))) (not (length (user_header s) % 4 == 0)) (not-both (is_am s) _ is handlers.1.0) in
              (ltb-false 64 (length (user_header s)) both.0, eqb-true (length (user_header s) % 4) 0 (not-false (length (user_header s) % 4 == 0) both.1));
          count = λ is. eqb-true (length to) (length from) (not-false (length to == length from) (not-both (is_vector s) _ is vectors.0));
          lengths = λ is.
              all-weaker (λ (pq : Piece × Piece). not (pq.0.len == pq.1.len) ≡ false) (λ pq. pq.0.len ≡ pq.1.len) (λ pq e. eqb-true pq.0.len pq.1.len (not-false (pq.0.len == pq.1.len) e)) (zip to from)
              (any-none (λ (pq : Piece × Piece). not (pq.0.len == pq.1.len)) (zip to from) (not-both (is_vector s) _ is vectors.1.0));
          words = λ is.
              let both = or_parts (list_any (is_misaligned script d) to) (list_any (is_misaligned script d) from) (not-both (is_rmw s) _ is vectors.1.1.1.0) in (
                all-weaker (λ p. is_misaligned script d p ≡ false) (IsAligned d) (aligned d) to (any-none (is_misaligned script d) to both.0),
                all-weaker (λ p. is_misaligned script d p ≡ false) (IsAligned d) (aligned d) from (any-none (is_misaligned script d) from both.1),
              );
        }

    -- what no reason is found for has none where every address is known
    always-known : (known : Addr → Bool) (a i : ℕ) → refusal_by script rules known a i ≡ None → refusal_by script rules (λ _. true) a i ≡ None
    unfolding refusal_by
    always-known known a i h =
        let t = none-tests _ h in
        let to = target_pieces (statement script a i) in
        let d = target script a i in
        no-tests _ (t.0, (outside-known known d to t.1.0 t.1.1.1.1.1.0, (t.1.1.0, (t.1.1.1.0, (t.1.1.1.1.0, (none-unknown to, t.1.1.1.1.1.1))))))

    is-task : (a i : ℕ) → has_statement script rules a i ≡ true → a < script.tasks
    is-task a i h = ltb-true a script.tasks (and_parts (nat_lt a script.tasks) (nat_lt i (length (statements script a))) h).0

    -- of what was issued or entered
    abbrev IsUnrefused : (task statement : ℕ) → Type 0
    IsUnrefused a i = (a < script.tasks) × (refusal_by script rules (λ _. true) a i ≡ None)

    abbrev WasAccepted : EventKey → Type 0
    WasAccepted (Issued a i) = IsUnrefused a i
    WasAccepted (Entered a i) = IsUnrefused a i
    WasAccepted _ = Unit {0}

    accepted-now : (e : Event) (J : List Event) → Keeps script rules J e → WasAccepted (key_of e)
    unfolding refusal_of
    accepted-now (Issue a i) J k = (is-task a i (and_parts _ _ k.there).0, always-known (is_known script J a) a i k.order.1)
    accepted-now (Enter a i) J k = (is-task a i (and_parts _ _ k.there).0, always-known (is_known script J a) a i k.order.1)
    accepted-now e J k = tt

    needs-accepted : (J : List Event) (a i : ℕ) (leg : Leg) → Atomic script rules J → AllByRecursion (λ d. happened d J ≡ true) (copy_needs script rules a i leg) → IsUnrefused a i
    needs-accepted J a i Go h n = shown script rules WasAccepted accepted-now (Issued a i) J h n.0
    needs-accepted J a i (Join d) h n = shown script rules WasAccepted accepted-now (Entered a i) J h n.0
    needs-accepted J a i _ h n =
        let rest = last-of script rules (λ d. happened d J ≡ true) (only_if (has_completion script rules a i) (Begun (message a i Go) ∷ Ended (message a i Go) ∷ [])) (Landed (message a i Go) ∷ to_land script rules a i) n in
        shown script rules WasAccepted accepted-now (Issued a i) J h rest.1.0

    -- and so of each message that was copied
    copied-unrefused : (J : List Event) (m : MsgName) → Atomic script rules J → happened (Copied m) J ≡ true → IsUnrefused m.origin m.statement
    unfolding needs
    copied-unrefused J m h d = needs-accepted J m.origin m.statement m.leg h (closed script rules (Copied m) J h d)

    pub copied-accepted : (J : List Event) (m : MsgName) → Atomic script rules J → happened (Copied m) J ≡ true → Accepted (target script m.origin m.statement) (statement script m.origin m.statement)
    copied-accepted J m h d = let u = copied-unrefused J m h d in accepted (λ _. true) m.origin m.statement u.0 u.1

    -- and of each statement that was entered
    pub entered-accepted : (J : List Event) (a i : ℕ) → Atomic script rules J → happened (Entered a i) J ≡ true → Accepted (target script a i) (statement script a i)
    entered-accepted J a i h d = let u = shown script rules WasAccepted accepted-now (Entered a i) J h d in accepted (λ _. true) a i u.0 u.1

pub all-accepted : HoldsOfAtomic CopiedAreAccepted
all-accepted script rules J h = λ m d. (copied-unrefused script rules J m h d).1
