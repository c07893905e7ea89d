-- The statement whose data a task copies may be sent: no reason holds against it, and when it was issued the task had
-- passed the rounds of its addresses, so it knows them.
use Rattle.std.proofs.Common.{◌≡◌, ℕ, ◌+◌, ◌<◌, ◌≤◌, ◌^◌, Bool, true, false, not, List, [], ◌∷◌, length, Option, Some, None, refl, ap, subst, ⊎_elim, arith, lit≤}
use Rattle.std.specs.List.{AllByRecursion, list_any}
use Rattle.std.specs.Prelude.{slice_get}
use Rattle.std.proofs.lemmas.Bool.{not-false, or_parts, both_ways}
use Rattle.lapi_base.specs.declared.address.Addr.{Addr}
use Rattle.lapi_base.specs.declared.address.Addr.TheVariants.{Plain, Table}
use Rattle.lapi_base.specs.declared.piece.Piece.{Piece}
use Rattle.lapi_base.specs.declared.statement.Statement.{Statement}
use Rattle.lapi_base.specs.declared.statement.Statement.TheVariants as statements
use Rattle.lapi_base.specs.declared.script.Script.{Script}
use Rattle.lapi_base.specs.declared.rule.Rules.{Rules}
use Rattle.lapi_base.specs.declared.event.Event.{Event}
use Rattle.lapi_base.specs.declared.event.Event.TheVariants.{Issue, Refuse, Enter, Pass, Copy, Head, Land, Begin, End}
use Rattle.lapi_base.specs.declared.message.Leg.TheVariants.{Go}
use Rattle.lapi_base.specs.Packet.Layout.{layout_of, longest_of}
use Rattle.lapi_base.specs.Record.Atomic.{Atomic, Keeps}
use Rattle.lapi_base.specs.Record.Handlers.{user_header}
use Rattle.lapi_base.specs.Record.Names.{Issued, Passed, key_of, message, happened}
use Rattle.lapi_base.specs.Record.Operations.{statement, address, target, target_pieces, message_length, is_am, table_rounds}
use Rattle.lapi_base.specs.Record.Refusals.{refusal_by, refusal_of, is_known, round_passed, option_any}
use Rattle.lapi_base.specs.Record.Valid.{ValidScript}
use Rattle.lapi_base.proofs.LayoutLaws.{longest-most}
use Rattle.lapi_base.proofs.ListLaws.{all-weaker}
use Rattle.lapi_base.proofs.NameLaws.{happened-nil, happened-head, happened-later, happened-cases}
use Rattle.lapi_calls.specs.Calls.{AreTold, IsSendable}
use Rattle.lapi_calls.specs.Entries.{is_told, address_by, AreGiven}
use Rattle.lapi_laws.proofs.Backward.{Atomic-head, Atomic-tail}
use Rattle.lapi_laws.proofs.Shorts.{copied-short, none-tests}
use Rattle.lapi_parts.proofs.Accepted.{LiesWithin, copied-accepted}

-- a user header that a header handler may be given is short
header-short : (s : Statement) → (is_am s ≡ true → length (user_header s) ≤ 64) → length (user_header s) ≤ 64
header-short (statements.Am target handler header from len tgt org cmpl) h = h refl
header-short _ h = lit≤ tt

module _ (script : Script) (rules : Rules) where
  -- the task knows the address of each of these pieces
  abbrev AreKnown : List Event → (task : ℕ) → List Piece → Type 0
  AreKnown J a ps = AllByRecursion (λ (p : Piece). is_known script J a p.at ≡ true) ps

  passed-later : (e : Event) (J : List Event) (a : ℕ) (o : Option ℕ) → option_any (λ i. happened (Passed a i) J) o ≡ true → option_any (λ i. happened (Passed a i) (e ∷ J)) o ≡ true
  passed-later e J a None h = h
  passed-later e J a (Some i) h = happened-later (Passed a i) e J h

  known-later : (e : Event) (J : List Event) (a : ℕ) (at : Addr) → is_known script J a at ≡ true → is_known script (e ∷ J) a at ≡ true
  known-later e J a (Plain x) h = refl
  known-later e J a (Table round offset) h = passed-later e J a (slice_get (table_rounds script a) round) h

  all-known : (J : List Event) (a : ℕ) (ps : List Piece) → list_any (λ (p : Piece). not (is_known script J a p.at)) ps ≡ false → AreKnown J a ps
  all-known J a [] h = tt
  all-known J a (p ∷ ps) h = let parts = or_parts (not (is_known script J a p.at)) (list_any (λ (p : Piece). not (is_known script J a p.at)) ps) h in (not-false _ parts.0, all-known J a ps parts.1)

  known-now : (e : Event) (J : List Event) (a i : ℕ) → Keeps script rules J e → Issued a i ≡ key_of e → AreKnown J a (target_pieces (statement script a i))
  unfolding refusal_of refusal_by
  known-now (Issue b j) J a i k x =
      let tasks : b ≡ a = cc in
      let numbers : j ≡ i = cc in
      subst (λ n. AreKnown J a (target_pieces (statement script a n))) numbers
      (subst (λ n. AreKnown J n (target_pieces (statement script n j))) tasks (all-known J b (target_pieces (statement script b j)) (none-tests _ k.order.1).1.1.1.1.1.0))
  known-now (Refuse b j why) J a i k x = absurd (let y : ⊥ = cc in y)
  known-now (Enter b j) J a i k x = absurd (let y : ⊥ = cc in y)
  known-now (Pass b j) J a i k x = absurd (let y : ⊥ = cc in y)
  known-now (Copy m) J a i k x = absurd (let y : ⊥ = cc in y)
  known-now (Head m) J a i k x = absurd (let y : ⊥ = cc in y)
  known-now (Land m) J a i k x = absurd (let y : ⊥ = cc in y)
  known-now (Begin m t w) J a i k x = absurd (let y : ⊥ = cc in y)
  known-now (End m t w) J a i k x = absurd (let y : ⊥ = cc in y)

  -- What was issued has its addresses known.
  issued-known : (J : List Event) (a i : ℕ) → Atomic script rules J → happened (Issued a i) J ≡ true → AreKnown J a (target_pieces (statement script a i))
  issued-known [] a i h s = absurd (both_ways _ (happened-nil (Issued a i)) s)
  issued-known (e ∷ J) a i h s =
      let ps = target_pieces (statement script a i) in
      all-weaker (λ (p : Piece). is_known script J a p.at ≡ true) (λ (p : Piece). is_known script (e ∷ J) a p.at ≡ true) (λ p. known-later e J a p.at) ps
      (⊎_elim
      (λ (x : Issued a i ≡ key_of e). known-now e J a i (Atomic-head script rules e J h) x)
      (λ (x : happened (Issued a i) J ≡ true). issued-known J a i (Atomic-tail script rules e J h) x)
      (happened-cases (Issued a i) e J s))

  module _ (known : ℕ → Bool) (given : ℕ → ℕ → ℕ) (are-given : AreGiven script known given) where
    -- an address that is told is the script's
    place-is : (d : ℕ) (a : Addr) → is_told known a ≡ true → address_by given d a ≡ address script d a
    unfolding address
    place-is d (Plain x) h = refl
    place-is d (Table round offset) h = ap (λ n. n + offset) (are-given round d h)

    places-fit : (d : ℕ) (ps : List Piece) → script.memory ≤ 65536 → AreTold known ps → AllByRecursion (LiesWithin script d) ps → AllByRecursion (λ (p : Piece). address_by given d p.at < 2 ^ 32) ps
    places-fit d [] l told within = tt
    places-fit d (p ∷ ps) l told within = (let e = place-is d p.at told.0 in let in-memory = within.0 in omega (arith, l, e, in-memory), places-fit d ps l told.1 within.1)

    -- So it may be sent as it is copied, by whoever knows each round that the task has passed.
    pub may-send : (t i : ℕ) (J : List Event) → ValidScript script → Atomic script rules (Copy (message t i Go) ∷ J) → happened (Issued t i) J ≡ true → ((round : ℕ) → round_passed script J t round ≡ true → known round ≡ true) → IsSendable known given t (statement script t i)
    unfolding message_length longest_of
    may-send t i J valid atomic issued passed =
        let go = message t i Go in
        let d = target script t i in
        let ps = target_pieces (statement script t i) in
        let is-copied = happened-head (Copy go) J in
        let told = all-weaker (λ (p : Piece). is_known script J t p.at ≡ true) (λ (p : Piece). is_told known p.at ≡ true) (λ p. told-by p.at) ps (issued-known J t i (Atomic-tail script rules (Copy go) J atomic) issued) in
        let acc = copied-accepted script rules (Copy go ∷ J) go atomic is-copied in
        record {
          told = told;
          places = places-fit d ps valid.memory.1 told acc.to;
          short = (let short = copied-short script rules (Copy go ∷ J) go atomic is-copied in let most = longest-most (layout_of script.layout) in omega (arith, short, most));
          header = header-short (statement script t i) (λ is. (acc.header is).0);
        }
      where
        told-by : (at : Addr) → is_known script J t at ≡ true → is_told known at ≡ true
        told-by (Plain x) h = refl
        told-by (Table round offset) h = passed round h
