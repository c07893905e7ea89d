-- The head of every message that a valid script copies keeps its rules.
use Rattle.std.proofs.Common.{◌≡◌, ℕ, zero, suc, ◌+◌, ◌<◌, ◌≤◌, min, Bool, true, false, List, [], ◌∷◌, ◌++◌, length, map, Option, Some, None, refl, sym, ap, ◌∙◌, arith, inl, inr}
use Rattle.std.specs.Prelude.{nat_lt, is_some}
use Rattle.std.specs.List.{AllByRecursion, filter, zip}
use Rattle.std.proofs.lemmas.Bool.{false≢true, cond_both, or_parts, le-leb, leb-true, ltb-false, eqb-true, cases_lt, and_parts}
use Rattle.std.proofs.lemmas.List.{length-map, length-append}
use Rattle.std.proofs.lemmas.List.Elements.{filter-append}
use Rattle.std.proofs.lemmas.List.Sums.{sum_by-cons}
use Rattle.lapi_base.specs.declared.script.Script.{Script}
use Rattle.lapi_base.specs.declared.piece.Piece.{Piece}
use Rattle.lapi_base.specs.declared.span.Span.{Span}
use Rattle.lapi_base.specs.declared.vector.Vector.{Vector}
use Rattle.lapi_base.specs.declared.vector.Vector.TheVariants.{Stride}
use Rattle.lapi_base.specs.declared.statement.Statement.{Statement}
use Rattle.lapi_base.specs.declared.statement.Statement.TheVariants.{Put, Get, Putv, Getv, Rmw, Am, Gfence}
use Rattle.lapi_base.specs.declared.rule.Rules.{Rules}
use Rattle.lapi_base.specs.declared.message.Leg.{Leg}
use Rattle.lapi_base.specs.declared.message.Leg.TheVariants.{Go, Back, Note, Echo, Join}
use Rattle.lapi_base.specs.declared.message.MsgName.{MsgName}
use Rattle.lapi_base.specs.Packet.Format.{IsSpelled}
use Rattle.lapi_base.specs.Packet.Layout.{Layout, layout_of, has_echo, may_answer, longest_of, longest_active_of, longest, longest_active}
use Rattle.lapi_base.specs.Packet.Heads.{is_operation, head_form, note_op_of}
use Rattle.lapi_base.specs.Packet.Spelling.{is_length}
use Rattle.lapi_base.specs.Packet.PacketBytes as written
use Rattle.lapi_base.specs.Record.Below.{below}
use Rattle.lapi_base.specs.Record.Operations.{numbers_below, statements, statement, address, pieces_of, spans, total, target, has_leg, length_by, is_am, cmpl_counter, table_rounds, is_table, is_gfence}
use Rattle.lapi_base.specs.Record.Refusals.{is_long, rounds_like, round_of, gfence_rounds}
use Rattle.lapi_base.specs.Record.Packets.{head_by}
use Rattle.lapi_base.specs.Record.Valid.{ValidVector, ValidStatement, ValidScript, ValidRules}
use Rattle.lapi_base.specs.Laws.Receiving.{bytes_in, NamesCounter, IsWord}
use Rattle.lapi_base.specs.Record.Handlers.{user, has_completion, answers}
use Rattle.lapi_base.proofs.ListLaws.{filter-push}
use Rattle.lapi_base.proofs.UptoLaws.{numbers_below-length}
use Rattle.lapi_parts.proofs.Accepted.{LiesWithin, Accepted}
use Rattle.lapi_parts.proofs.SpelledParts.{IsNumbered, IsWithin, SameLengths}
use Rattle.lapi_parts.proofs.SpelledHeads.{put-spelled, get_go-spelled, get_back-spelled, putv-spelled, getv_go-spelled, getv_back-spelled, rmw_go-spelled, rmw_back-spelled, am-spelled, note-spelled, echo-spelled, gfence-spelled, addr-spelled}

-- ---- pieces and spans

pieces-few : (v : Vector) → ValidVector v → (1 ≤ length (pieces_of v)) × (length (pieces_of v) ≤ 16)
unfolding pieces_of
pieces-few (Vector.List pieces) h = (h.0, h.1)
pieces-few (Stride base block stride count) h =
    let e : length (pieces_of (Stride base block stride count)) ≡ count = length-map (numbers_below count) _ ∙ numbers_below-length count in
    (omega (arith, h.0), omega (arith, h.1))

spans-length : (script : Script) (d : ℕ) (ps : List Piece) → length (spans script d ps) ≡ length ps
spans-length script d ps = length-map ps (λ (p : Piece). record { at = address script d p.at; len = p.len })

pub spans-total : (script : Script) (d : ℕ) (ps : List Piece) → bytes_in (spans script d ps) ≡ total ps
spans-total script d [] = refl
spans-total script d (p ∷ ps) =
    sum_by-cons (λ (s : Span). s.len) (record { at = address script d p.at; len = p.len }) (spans script d ps) ∙ ap (λ n. p.len + n) (spans-total script d ps) ∙ sym (sum_by-cons (λ (n : ℕ). n) p.len (map (λ (q : Piece). q.len) ps))

spans-within : (script : Script) → ValidScript script → (d : ℕ) (ps : List Piece) → AllByRecursion (LiesWithin script d) ps → AllByRecursion IsWithin (spans script d ps)
spans-within script valid d [] h = tt
spans-within script valid d (p ∷ ps) h =
    let own : address script d p.at + p.len ≤ script.memory = h.0 in
    let most : script.memory ≤ 65536 = valid.memory.1 in
    (omega arith, spans-within script valid d ps h.1)

pub spans-same : (script : Script) (d : ℕ) (xs ys : List Piece) → length xs ≡ length ys → AllByRecursion (λ (pq : Piece × Piece). pq.0.len ≡ pq.1.len) (zip xs ys) → SameLengths (spans script d xs) (spans script d ys)
spans-same script d [] [] n h = tt
spans-same script d (x ∷ xs) (y ∷ ys) n h = (h.0, spans-same script d xs ys (let e : length xs ≡ length ys = omega arith in e) h.1)
spans-same script d [] (y ∷ ys) n h = absurd (omega arith)
spans-same script d (x ∷ xs) [] n h = absurd (omega arith)

pub same-total : (xs ys : List Span) → SameLengths xs ys → bytes_in xs ≡ bytes_in ys
same-total [] [] h = refl
same-total (x ∷ xs) (y ∷ ys) h =
    let own : x.len ≡ y.len = h.0 in
    sum_by-cons (λ (s : Span). s.len) x xs ∙ ap (λ n. n + bytes_in xs) own ∙ ap (λ n. y.len + n) (same-total xs ys h.1) ∙ sym (sum_by-cons (λ (s : Span). s.len) y ys)
same-total [] (y ∷ ys) h = absurd h
same-total (x ∷ xs) [] h = absurd h

-- ---- rounds

-- of numbers below a bound, at most i are below i
few-before : (i n : ℕ) (p : ℕ → Bool) → length (filter (λ j. nat_lt j i) (below n p)) ≤ min n i
unfolding below
few-before i zero p = omega arith
few-before i (suc n) p =
    let old = few-before i n p in
    let test = λ (j : ℕ). nat_lt j i in
    cond_both (p n) (below n p ++ n ∷ []) (below n p) (λ xs. length (filter test xs) ≤ min (suc n) i)
    (λ _. elim (cases_lt n i) [
      | inl less ↦
          let e : length (filter test (below n p ++ n ∷ [])) ≡ length (filter test (below n p)) + length (filter test (n ∷ [])) = ap length (filter-append test (below n p) (n ∷ [])) ∙ length-append (filter test (below n p)) (filter test (n ∷ [])) in
          let one : length (filter test (n ∷ [])) ≤ 1 = cond_both (test n) (n ∷ []) [] (λ xs. length xs ≤ 1) (λ _. omega arith) (λ _. omega arith) in
          omega arith
      | inr more ↦ let e = ap length (filter-push i n (below n p) more) in omega (arith, e)
    ])
    (λ _. omega arith)

rounds-before : (script : Script) (s : Statement) (a i : ℕ) → length (filter (λ j. nat_lt j i) (rounds_like script s a)) ≤ i
unfolding gfence_rounds table_rounds
rounds-before script s a i =
    cond_both (is_gfence s) (gfence_rounds script a) (table_rounds script a) (λ xs. length (filter (λ j. nat_lt j i) xs) ≤ i)
    (λ _. omega (arith, few-before i (length (statements script a)) (λ k. is_gfence (statement script a k))))
    (λ _. omega (arith, few-before i (length (statements script a)) (λ k. is_table script (statement script a k))))

pub round-small : (script : Script) (a i : ℕ) → i < 512 → round_of script a i ≤ 511
unfolding round_of
round-small script a i l = omega (arith, rounds-before script (statement script a i) a i)

-- ---- heads

counter-small : (script : Script) → ValidScript script → (o : Option ℕ) → NamesCounter script o → IsNumbered o
counter-small script valid None h = tt
counter-small script valid (Some c) h = let l : c < script.counters = h in let m : script.counters ≤ 64 = valid.counters in let g : c < 64 = omega arith in g

module _ (script : Script) (rules : Rules) where
  -- an active message alone answers, under a layout that has answers, and its word has a place
  pub answer-word : (m : MsgName) → answers script rules m.origin m.statement ≡ true → (is_am (statement script m.origin m.statement) ≡ true) × IsWord script (user script m)
  unfolding answers has_completion user
  answer-word m h =
      let both = and_parts _ _ h in
      let rest = and_parts _ _ (and_parts _ _ both.0).0 in
      let place = and_parts _ _ both.1 in
      ((and_parts _ _ rest.1).0, (leb-true _ _ place.1, eqb-true _ 0 place.0))

  pub answer-layout : (m : MsgName) → answers script rules m.origin m.statement ≡ true → has_echo (layout_of script.layout) ≡ true
  unfolding answers may_answer
  answer-layout m h = (and_parts _ _ (and_parts _ _ (and_parts _ _ h).0).0).0

module _ (script : Script) (rules : Rules) (valid : ValidScript script) (few : ValidRules rules) (m : MsgName) where
  abbrev Fine : Statement → Type 0
  Fine s = Accepted script rules (target script m.origin m.statement) s

  abbrev layout : Layout
  layout = layout_of script.layout

  -- what is at most as long as the longest message
  no-longer : (n : ℕ) → nat_lt (longest_of script) n ≡ false → n ≤ longest layout
  unfolding longest_of
  no-longer n h = ltb-false (longest layout) n h

  no-longer_am : (n : ℕ) → nat_lt (longest_active_of script) n ≡ false → n ≤ longest_active layout
  unfolding longest_active_of
  no-longer_am n h = ltb-false (longest_active layout) n h

  -- the largest memory
  inside : (at count : ℕ) → at + count ≤ script.memory → at + count ≤ 65536
  inside at count h = let most : script.memory ≤ 65536 = valid.memory.1 in omega arith

  note-kept : (s : Statement) → is_some (cmpl_counter s) ≡ true → Fine s → IsSpelled (head_form layout Note (written.head_number (head_by script m Note s)) 0) (head_by script m Note s) (written.head (head_by script m Note s))
  unfolding head_form
  note-kept (Put task to from len tgt org (Some c)) g h = note-spelled (note_op_of 1) c (counter-small script valid (Some c) h.cmpl)
  note-kept (Putv task to from tgt org (Some c)) g h = note-spelled (note_op_of 3) c (counter-small script valid (Some c) h.cmpl)
  note-kept (Am task handler header from len tgt org (Some c)) g h = note-spelled (note_op_of 6) c (counter-small script valid (Some c) h.cmpl)
  note-kept _ g h = absurd (false≢true g)

  -- the head of a message that its statement has, if it answers only where it may
  pub head-spelled : (echoes : Bool) → (echoes ≡ true → answers script rules m.origin m.statement ≡ true) → (leg : Leg) (s : Statement) → has_leg script echoes m.origin leg s ≡ true → Fine s → ValidStatement s → round_of script m.origin m.statement ≤ 511 → IsSpelled (head_form layout leg (written.head_number (head_by script m leg s)) (length_by leg s)) (head_by script m leg s) (written.head (head_by script m leg s))
  unfolding head_form longest_of address
  head-spelled echoes may Go (Put task to from len tgt org cmpl) g h v r = put-spelled len (address script _ to) tgt cmpl (inside _ len h.to.0) (counter-small script valid tgt h.tgt) (counter-small script valid cmpl h.cmpl)
  head-spelled echoes may Go (Get task from to len tgt org) g h v r = get_go-spelled layout len (address script _ from) to tgt org (no-longer len h.short) (inside _ len h.to.0) (inside to len h.from.0) (counter-small script valid tgt h.tgt) (counter-small script valid org h.org)
  head-spelled echoes may Go (Putv task to from tgt org cmpl) g h v r =
      let d = target script m.origin m.statement in
      let count = pieces-few to v.1 in
      let n = spans-length script d (pieces_of to) in
      let same = spans-same script d (pieces_of to) (pieces_of from) (h.count refl) (h.lengths refl) in
      putv-spelled (total (pieces_of from)) tgt cmpl (spans script d (pieces_of to)) (counter-small script valid tgt h.tgt) (counter-small script valid cmpl h.cmpl) (omega (arith, n, count.0)) (omega (arith, n, count.1)) (spans-within script valid d (pieces_of to) h.to)
      (same-total _ _ same ∙ spans-total script d (pieces_of from))
  head-spelled echoes may Go (Getv task from to tgt org) g h v r =
      let d = target script m.origin m.statement in
      let count = pieces-few from v.1 in
      let n = spans-length script d (pieces_of from) in
      let t = spans-total script d (pieces_of from) in
      let l : total (pieces_of from) ≤ longest layout = no-longer (total (pieces_of from)) (or_parts (is_long script (pieces_of from)) (is_long script (pieces_of to)) h.short).0 in
      getv_go-spelled layout tgt org (spans script d (pieces_of from)) (spans script d (pieces_of to)) (counter-small script valid tgt h.tgt) (counter-small script valid org h.org) (omega (arith, n, count.0)) (omega (arith, n, count.1)) (spans-within script valid d (pieces_of from) h.to) (spans-within script valid d (pieces_of to) h.from) (omega arith)
      (spans-same script d (pieces_of from) (pieces_of to) (h.count refl) (h.lengths refl))
  head-spelled echoes may Go (Rmw task op at in1 in2 prev org) g h v r =
      let w = h.words refl in
      rmw_go-spelled op (address script _ at) in1 in2 prev org (inside _ 4 h.to.0) w.0.0 v.2 v.3 v.4 (inside prev 4 h.from.0) w.1.0 (counter-small script valid org h.org)
  head-spelled echoes may Go (Am task handler header from len tgt org cmpl) g h v r =
      let one = h.handler refl in
      let most : length rules.headers ≤ 16 = few.0 in
      let words = h.header refl in
      am-spelled handler tgt cmpl header (omega arith) (counter-small script valid tgt h.tgt) (counter-small script valid cmpl h.cmpl) words.0 words.1 v.3
  head-spelled echoes may Back (Get task from to len tgt org) g h v r = get_back-spelled len to org (inside to len h.from.0) (counter-small script valid org h.org)
  head-spelled echoes may Back (Getv task from to tgt org) g h v r =
      let d = target script m.origin m.statement in
      let count = pieces-few to v.2 in
      let n = spans-length script d (pieces_of to) in
      let same = spans-same script d (pieces_of from) (pieces_of to) (h.count refl) (h.lengths refl) in
      getv_back-spelled (total (pieces_of from)) org (spans script d (pieces_of to)) (counter-small script valid org h.org) (omega (arith, n, count.0)) (omega (arith, n, count.1)) (spans-within script valid d (pieces_of to) h.from)
      (sym (same-total _ _ same) ∙ spans-total script d (pieces_of from))
  head-spelled echoes may Back (Rmw task op at in1 in2 prev org) g h v r = let w = h.words refl in rmw_back-spelled prev org (inside prev 4 h.from.0) w.1.0 (counter-small script valid org h.org)
  head-spelled echoes may Note s g h v r = note-kept s (and_parts _ _ g).0 h
  head-spelled echoes may Echo s g h v r = let word = (answer-word script rules m (may g)).1 in echo-spelled (user script m) (cmpl_counter s) (inside (user script m) 4 word.0) word.1 (counter-small script valid (cmpl_counter s) h.cmpl)
  head-spelled echoes may (Join d) Gfence g h v r = gfence-spelled (round_of script m.origin m.statement) r
  head-spelled echoes may (Join d) (Statement.Addr at) g h v r = let within : at + 0 ≤ script.memory = h.from.0 in let most : script.memory ≤ 65536 = valid.memory.1 in addr-spelled (round_of script m.origin m.statement) at r (omega arith)
  head-spelled echoes may _ s g h v r = absurd (false≢true g)

  -- the operation goes with the leg
  pub operation-kept : (echoes : Bool) (leg : Leg) (s : Statement) → has_leg script echoes m.origin leg s ≡ true → is_operation leg (written.head_number (head_by script m leg s)) ≡ true
  operation-kept echoes Go (Put task to from len tgt org cmpl) g = refl
  operation-kept echoes Go (Get task from to len tgt org) g = refl
  operation-kept echoes Go (Putv task to from tgt org cmpl) g = refl
  operation-kept echoes Go (Getv task from to tgt org) g = refl
  operation-kept echoes Go (Rmw task op at in1 in2 prev org) g = refl
  operation-kept echoes Go (Am task handler header from len tgt org cmpl) g = refl
  operation-kept echoes Back (Get task from to len tgt org) g = refl
  operation-kept echoes Back (Getv task from to tgt org) g = refl
  operation-kept echoes Back (Rmw task op at in1 in2 prev org) g = refl
  operation-kept echoes Note (Put task to from len tgt org cmpl) g = refl
  operation-kept echoes Note (Putv task to from tgt org cmpl) g = refl
  operation-kept echoes Note (Am task handler header from len tgt org cmpl) g = refl
  operation-kept echoes Echo s g = refl
  operation-kept echoes (Join d) Gfence g = refl
  operation-kept echoes (Join d) (Statement.Addr at) g = refl
  operation-kept echoes _ s g = absurd (false≢true g)

  -- and the length with both
  pub length-kept : (echoes : Bool) (leg : Leg) (s : Statement) → has_leg script echoes m.origin leg s ≡ true → Fine s → is_length layout leg (written.head_number (head_by script m leg s)) (length_by leg s) ≡ true
  unfolding longest_of longest_active_of
  length-kept echoes Go (Put task to from len tgt org cmpl) g h = le-leb len (longest layout) (no-longer len h.short)
  length-kept echoes Go (Get task from to len tgt org) g h = refl
  length-kept echoes Go (Putv task to from tgt org cmpl) g h = le-leb (total (pieces_of from)) (longest layout) (no-longer (total (pieces_of from)) (or_parts (is_long script (pieces_of to)) (is_long script (pieces_of from)) h.short).1)
  length-kept echoes Go (Getv task from to tgt org) g h = refl
  length-kept echoes Go (Rmw task op at in1 in2 prev org) g h = refl
  length-kept echoes Go (Am task handler header from len tgt org cmpl) g h = le-leb len (longest_active layout) (no-longer_am len h.short)
  length-kept echoes Back (Get task from to len tgt org) g h = le-leb len (longest layout) (no-longer len h.short)
  length-kept echoes Back (Getv task from to tgt org) g h = le-leb (total (pieces_of from)) (longest layout) (no-longer (total (pieces_of from)) (or_parts (is_long script (pieces_of from)) (is_long script (pieces_of to)) h.short).0)
  length-kept echoes Back (Rmw task op at in1 in2 prev org) g h = refl
  length-kept echoes Note s g h = refl
  length-kept echoes Echo s g h = refl
  length-kept echoes (Join d) s g h = refl
  length-kept echoes _ s g h = absurd (false≢true g)
