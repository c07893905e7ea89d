-- What a message carries has the length that its statement says.
use Rattle.std.proofs.Common.{◌≡◌, ℕ, ◌+◌, Bool, true, false, cond, ◌==◌, ◌&&◌, ◌||◌, List, [], ◌∷◌, length, map, refl, sym, ap, ◌∙◌, subst, ⊎_elim, arith}
use Rattle.std.specs.List.{AllByRecursion, fold}
use Rattle.std.proofs.lemmas.Bool.{false≢true, and_parts, both_ways, cond-true, cond_both}
use Rattle.std.proofs.lemmas.List.{length-map}
use Rattle.std.proofs.lemmas.List.Concat.{length-flat_map}
use Rattle.lapi_base.specs.declared.script.Script.{Script}
use Rattle.lapi_base.specs.declared.address.Addr.TheVariants.{Plain}
use Rattle.lapi_base.specs.declared.piece.Piece.{Piece}
use Rattle.lapi_base.specs.declared.span.Span.{Span}
use Rattle.lapi_base.specs.declared.statement.Statement.{Statement}
use Rattle.lapi_base.specs.declared.statement.Statement.TheVariants.{Put, Get, Putv, Getv, Rmw, Am}
use Rattle.lapi_base.specs.declared.rule.Rules.{Rules}
use Rattle.lapi_base.specs.declared.message.Leg.{Leg}
use Rattle.lapi_base.specs.declared.message.Leg.TheVariants.{Go, Back, Note, Echo, Join}
use Rattle.lapi_base.specs.declared.message.MsgName.{MsgName}
use Rattle.lapi_base.specs.declared.event.Event.{Event}
use Rattle.lapi_base.specs.declared.event.Event.TheVariants.{Issue, Refuse, Enter, Pass, Copy, Head, Land, Begin, End}
use Rattle.lapi_base.specs.Record.Names.{message, name_eq, Copied, Landed, key_of, happened, Begun, Ended}
use Rattle.lapi_base.specs.Record.Operations.{numbers_below, statement, target, one_piece, spans, target_pieces, origin_pieces, pieces_of, total, is_data, is_rmw, has_back, has_leg, length_by, message_length}
use Rattle.lapi_base.specs.Record.Handlers.{has_completion, word_bytes, answers, answer_of, sent_back, completion_answer, rule_named, is_answer, user}
use Rattle.lapi_base.specs.Record.Values.{Memories, Values, values, gathered, at_target, with_bytes, land_bytes, source_by}
use Rattle.lapi_base.specs.Record.Atomic.{Atomic, copy_needs, only_if, to_land, needs}
use Rattle.lapi_base.specs.Laws.Entries.{carried}
use Rattle.lapi_base.specs.declared.rule.CompletionRule.{CompletionRule}
use Rattle.lapi_base.specs.declared.rule.CompletionRule.TheVariants.{Answer}
use Rattle.lapi_base.proofs.ListLaws.{list_all-each}
use Rattle.lapi_base.proofs.NameLaws.{happened-cases, happened-nil, name_eq-refl, name_eq-true}
use Rattle.lapi_base.proofs.UptoLaws.{numbers_below-length}
use Rattle.lapi_laws.proofs.Backward.{Atomic-head, Atomic-tail}
use Rattle.lapi_laws.proofs.Shorts.{last-of}
use Rattle.lapi_parts.proofs.ExactBytes.{stays}

-- the bytes of pieces are as many as their lengths say
piece-length : (memory : Memories) (t at len : ℕ) → length (map (λ k. memory t (at + k)) (numbers_below len)) ≡ len
piece-length memory t at len = length-map (numbers_below len) (λ k. memory t (at + k)) ∙ numbers_below-length len

sums : (script : Script) (memory : Memories) (t d : ℕ) (ps : List Piece) (acc : ℕ) → fold (λ a (p : Span). a + length (map (λ k. memory t (p.at + k)) (numbers_below p.len))) acc (spans script d ps) ≡ fold (λ a x. a + x) acc (map (λ (p : Piece). p.len) ps)
sums script memory t d [] acc = refl
sums script memory t d (p ∷ ps) acc = ap (λ n. fold (λ a (q : Span). a + length (map (λ k. memory t (q.at + k)) (numbers_below q.len))) (acc + n) (spans script d ps)) (piece-length memory t _ p.len) ∙ sums script memory t d ps (acc + p.len)

gathered-length : (script : Script) (memory : Memories) (t d : ℕ) (ps : List Piece) → length (gathered memory t (spans script d ps)) ≡ total ps
unfolding gathered
gathered-length script memory t d ps = length-flat_map (λ (p : Span). map (λ k. memory t (p.at + k)) (numbers_below p.len)) (spans script d ps) ∙ sums script memory t d ps 0

one-sum : (n : ℕ) → 0 + n ≡ n
one-sum n = omega arith

go-length : (script : Script) (memory : Memories) (t d : ℕ) (s : Statement) → is_data s ≡ true → length (cond (has_back s) [] (gathered memory t (spans script d (origin_pieces s)))) ≡ length_by Go s
go-length script memory t d (Put target to from len tgt org cmpl) h = gathered-length script memory t d (one_piece (Plain from) len) ∙ one-sum len
go-length script memory t d (Putv target to from tgt org cmpl) h = gathered-length script memory t d (pieces_of from)
go-length script memory t d (Am target handler header from len tgt org cmpl) h = gathered-length script memory t d (one_piece (Plain from) len) ∙ one-sum len
go-length script memory t d (Get target from to len tgt org) h = refl
go-length script memory t d (Getv target from to tgt org) h = refl
go-length script memory t d (Rmw target op at in1 in2 prev org) h = refl
go-length script memory t d _ h = absurd (false≢true h)

back-length : (script : Script) (memory : Memories) (t d : ℕ) (s : Statement) → has_back s ≡ true → length (gathered memory t (spans script d (target_pieces s))) ≡ length_by Back s
back-length script memory t d (Get target from to len tgt org) h = gathered-length script memory t d (one_piece from len) ∙ one-sum len
back-length script memory t d (Getv target from to tgt org) h = gathered-length script memory t d (pieces_of from)
back-length script memory t d (Rmw target op at in1 in2 prev org) h = gathered-length script memory t d (one_piece at 4)
back-length script memory t d _ h = absurd (false≢true h)

-- a read-modify-write answers a word
rmw-back : (s : Statement) → is_rmw s ≡ true → (has_back s ≡ true) × (length_by Back s ≡ 4)
rmw-back (Rmw target op at in1 in2 prev org) h = (refl, refl)
rmw-back _ h = absurd (false≢true h)

and-no : (b : Bool) → (b && false) ≡ false
and-no true = refl
and-no false = refl

module _ (script : Script) (rules : Rules) where
  word-length : (memory : Memories) (a i : ℕ) → is_rmw (statement script a i) ≡ true → length (gathered memory (target script a i) (at_target script rules a i)) ≡ 4
  word-length memory a i r = let s = statement script a i in let b = rmw-back s r in back-length script memory (target script a i) (target script a i) s b.0 ∙ b.1

  -- what the landing of a Go leaves of a word that was read, or reads
  land-word : (v : Values) (b j : ℕ) (leg : Leg) (a i : ℕ) → is_rmw (statement script a i) ≡ true → (name_eq (message a i Go) (message b j leg) ≡ false → length (v.bytes (message a i Back)) ≡ 4) → length (land_bytes script rules v (message b j leg) leg (statement script b j) (message a i Back)) ≡ 4
  unfolding name_eq
  land-word v b j Go a i r old =
      let m = message a i Back in
      let word = gathered v.memory (target script b j) (at_target script rules b j) in
      elim (name_eq (message a i Go) (message b j Go)) as (λ t. name_eq (message a i Go) (message b j Go) ≡ t → length (land_bytes script rules v (message b j Go) Go (statement script b j) m) ≡ 4) [
        | true ↦ λ e.
            let same : message a i Go ≡ message b j Go = name_eq-true (message a i Go) (message b j Go) e in
            let at-a : a ≡ b = ap (λ (k : MsgName). k.origin) same in
            let at-i : i ≡ j = ap (λ (k : MsgName). k.statement) same in
            let now : is_rmw (statement script b j) ≡ true = subst (λ (y : ℕ). is_rmw (statement script b y) ≡ true) at-i (subst (λ (x : ℕ). is_rmw (statement script x i) ≡ true) at-a r) in
            let reads : name_eq (message b j Back) m ≡ true = subst (λ (y : ℕ). name_eq (message b y Back) m ≡ true) at-i (subst (λ (x : ℕ). name_eq (message x i Back) m ≡ true) at-a (name_eq-refl m)) in
            ap (λ (f : MsgName → List ℕ). length (f m)) (cond-true (is_rmw (statement script b j)) (with_bytes script rules v (message b j Back) word) v.bytes now)
            ∙ ap length (cond-true (name_eq (message b j Back) m) word (v.bytes m) reads)
            ∙ word-length v.memory b j now
        | false ↦ λ e.
            cond_both (is_rmw (statement script b j)) (with_bytes script rules v (message b j Back) word) v.bytes (λ f. length (f m) ≡ 4)
            (λ now. cond_both (name_eq (message b j Back) m) word (v.bytes m) (λ l. length l ≡ 4) (λ _. word-length v.memory b j now) (λ _. old e))
            (λ _. old e)
      ] refl
  land-word v b j Back a i r old = old (and-no (a == b && i == j))
  land-word v b j Note a i r old = old (and-no (a == b && i == j))
  land-word v b j Echo a i r old = old (and-no (a == b && i == j))
  land-word v b j (Join x) a i r old = old (and-no (a == b && i == j))

  -- so the word that was read stands from then on
  word-stays : (J : List Event) (a i : ℕ) → is_rmw (statement script a i) ≡ true → happened (Landed (message a i Go)) J ≡ true → length (carried script rules J (message a i Back)) ≡ 4
  unfolding values happened
  word-stays [] a i r d = absurd (false≢true d)
  word-stays (Land n ∷ J) a i r d = land-word (values script rules J) n.origin n.statement n.leg a i r (λ apart. word-stays J a i r (subst (λ b. (b || happened (Landed (message a i Go)) J) ≡ true) apart d))
  word-stays (Copy n ∷ J) a i r d =
      let m = message a i Back in
      let v = values script rules J in
      let old = word-stays J a i r d in
      cond_both (name_eq n m) (source_by script rules v n n.leg (statement script n.origin n.statement)) (v.bytes m) (λ l. length l ≡ 4)
      (λ e.
      subst (λ (k : MsgName). length (source_by script rules v k k.leg (statement script k.origin k.statement)) ≡ 4) (sym (name_eq-true n m e))
      (ap length (cond-true (is_rmw (statement script a i)) (v.bytes m) _ r) ∙ old))
      (λ _. old)
  word-stays (Issue t k ∷ J) a i r d = word-stays J a i r d
  word-stays (Refuse t k reason ∷ J) a i r d = word-stays J a i r d
  word-stays (Enter t k ∷ J) a i r d = word-stays J a i r d
  word-stays (Pass t k ∷ J) a i r d = word-stays J a i r d
  word-stays (Head n ∷ J) a i r d = word-stays J a i r d
  word-stays (Begin n t w ∷ J) a i r d = word-stays J a i r d
  word-stays (End n t w ∷ J) a i r d = word-stays J a i r d

  -- an answer is a word
  word-sent : (rule : CompletionRule) (at : ℕ) (bytes : List ℕ) → is_answer rule ≡ true → length (sent_back (completion_answer rule at bytes)) ≡ 4
  unfolding word_bytes
  word-sent Answer at bytes h = refl
  word-sent _ at bytes h = absurd (false≢true h)

  answer-length : (a i : ℕ) (bytes : List ℕ) → answers script rules a i ≡ true → length (answer_of script rules (message a i Go) bytes) ≡ 4
  unfolding answers answer_of
  answer-length a i bytes h = word-sent (rule_named script rules (message a i Go)) (user script (message a i Go)) bytes (and_parts _ _ (and_parts _ _ h).0).1

  -- what is copied has its length
  source-length : (J : List Event) (a i : ℕ) (leg : Leg) → has_leg script (answers script rules a i) a leg (statement script a i) ≡ true → AllByRecursion (λ d. happened d J ≡ true) (copy_needs script rules a i leg) → length (source_by script rules (values script rules J) (message a i leg) leg (statement script a i)) ≡ length_by leg (statement script a i)
  source-length J a i Go h n = go-length script (values script rules J).memory a (target script a i) (statement script a i) h
  source-length J a i Back h n =
      let d = target script a i in
      let s = statement script a i in
      let landed = (last-of script rules (λ d. happened d J ≡ true) (only_if (has_completion script rules a i) (Begun (message a i Go) ∷ Ended (message a i Go) ∷ [])) (Landed (message a i Go) ∷ to_land script rules a i) n).0 in
      cond_both (is_rmw s) (carried script rules J (message a i Back)) (gathered (values script rules J).memory d (at_target script rules a i)) (λ l. length l ≡ length_by Back s)
      (λ r. word-stays J a i r landed ∙ sym (rmw-back s r).1)
      (λ _. back-length script (values script rules J).memory d d s h)
  source-length J a i Note h n = refl
  source-length J a i Echo h n = answer-length a i ((values script rules J).held (message a i Go)) h
  source-length J a i (Join x) h n = refl

  copy-length : (m : MsgName) (J : List Event) → Atomic script rules (Copy m ∷ J) → length (carried script rules (Copy m ∷ J) m) ≡ message_length script m
  unfolding values message_length needs
  copy-length m J h =
      let k = Atomic-head script rules (Copy m) J h in
      ap length (cond-true (name_eq m m) (source_by script rules (values script rules J) m m.leg (statement script m.origin m.statement)) (carried script rules J m) (name_eq-refl m))
      ∙ source-length J m.origin m.statement m.leg (and_parts _ _ k.there).1 (list_all-each (λ d. happened d J) (needs script rules (Copied m)) k.after)

  -- so each message that was copied carries as many bytes as its length
  pub carried-length : (J : List Event) (m : MsgName) → Atomic script rules J → happened (Copied m) J ≡ true → length (carried script rules J m) ≡ message_length script m
  carried-length [] m h d = absurd (both_ways _ (happened-nil (Copied m)) d)
  carried-length (e ∷ J) m h d =
      ⊎_elim
      (λ (x : Copied m ≡ key_of e). now e x h)
      (λ (x : happened (Copied m) J ≡ true). ap length (stays script rules e J m h x) ∙ carried-length J m (Atomic-tail script rules e J h) x)
      (happened-cases (Copied m) e J d)
    where
      now : (f : Event) → Copied m ≡ key_of f → Atomic script rules (f ∷ J) → length (carried script rules (f ∷ J) m) ≡ message_length script m
      now (Copy k) x g = let same : m ≡ k = cc in subst (λ (v : MsgName). length (carried script rules (Copy k ∷ J) v) ≡ message_length script v) (sym same) (copy-length k J g)
      now (Issue t i) x g = absurd (let y : ⊥ = cc in y)
      now (Refuse t i r) x g = absurd (let y : ⊥ = cc in y)
      now (Enter t i) x g = absurd (let y : ⊥ = cc in y)
      now (Pass t i) x g = absurd (let y : ⊥ = cc in y)
      now (Head k) x g = absurd (let y : ⊥ = cc in y)
      now (Land k) x g = absurd (let y : ⊥ = cc in y)
      now (Begin k t w) x g = absurd (let y : ⊥ = cc in y)
      now (End k t w) x g = absurd (let y : ⊥ = cc in y)
