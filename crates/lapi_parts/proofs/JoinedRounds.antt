-- The landing of a Join joins its origin to its round, once, and nobody to another.
use Rattle.std.proofs.Common.{◌≡◌, ℕ, ◌==◌, Bool, true, false, cond, ◌&&◌, ◌||◌, not, List, ◌∷◌, length, Some, None, refl, sym, ap, ◌∙◌, subst}
use Rattle.std.specs.Prelude.{slice_get}
use Rattle.std.proofs.lemmas.Bool.{false≢true, and_parts, and_from, eqb-true, false_from_ne_true}
use Rattle.lapi_base.specs.declared.script.Script.{Script}
use Rattle.lapi_base.specs.declared.rule.Rules.{Rules}
use Rattle.lapi_base.specs.declared.statement.Statement.{Statement}
use Rattle.lapi_base.specs.declared.message.Leg.{Leg}
use Rattle.lapi_base.specs.declared.message.Leg.TheVariants.{Join}
use Rattle.lapi_base.specs.declared.statement.Statement.TheVariants.{Gfence}
use Rattle.lapi_base.specs.declared.message.MsgName.{MsgName}
use Rattle.lapi_base.specs.declared.event.Event.{Event}
use Rattle.lapi_base.specs.declared.event.Event.TheVariants.{Land}
use Rattle.lapi_base.specs.Record.Names.{message, name_eq, Landed, happened}
use Rattle.lapi_base.specs.Record.Operations.{statements, statement, is_gfence, is_table, table_rounds}
use Rattle.lapi_base.specs.Record.Refusals.{gfence_rounds, rounds_like, round_of, join_landed}
use Rattle.lapi_base.specs.Record.Atomic.{Atomic}
use Rattle.lapi_base.specs.Laws.Headline.{HoldsOfAtomic}
use Rattle.lapi_base.specs.Laws.Rounds.{HasRound, has_joined, JoinsOnce, JoinsItsRound, JoinsNoOther}
use Rattle.lapi_base.proofs.BelowLaws.{below-member}
use Rattle.lapi_base.proofs.ListLaws.{some-same}
use Rattle.lapi_base.proofs.NameLaws.{happened-cons, name_eq-refl, name_eq-true}
use Rattle.lapi_base.proofs.TestLaws.{eqb-refl, same_tests}
use Rattle.lapi_laws.proofs.Backward.{Atomic-head}
use Rattle.lapi_parts.proofs.RoundOrder.{rounds-in-order}

swapped : (x y : Bool) → (x || y) ≡ (y || x)
swapped true true = refl
swapped true false = refl
swapped false true = refl
swapped false false = refl

joined_to : Leg → ℕ
joined_to (Join d) = d
joined_to _ = 0

module _ (script : Script) (rules : Rules) where
  -- a statement of one kind has no round of the other
  not-both-kinds : (s : Statement) → cond (not (is_gfence s)) (is_gfence s) (is_table script s) ≡ true → ⊥
  not-both-kinds Gfence h = false≢true h
  not-both-kinds _ h = false≢true h

  -- a round of a kind is a statement of it
  round-kind : (s : Statement) (d round j : ℕ) → slice_get (rounds_like script s d) round ≡ Some j → cond (is_gfence s) (is_gfence (statement script d j)) (is_table script (statement script d j)) ≡ true
  unfolding gfence_rounds table_rounds
  round-kind s d round j =
      elim (is_gfence s) as (λ g. slice_get (cond g (gfence_rounds script d) (table_rounds script d)) round ≡ Some j → cond g (is_gfence (statement script d j)) (is_table script (statement script d j)) ≡ true) [
        | true ↦ λ at. (below-member (length (statements script d)) (λ k. is_gfence (statement script d k)) round j at).1
        | false ↦ λ at. (below-member (length (statements script d)) (λ k. is_table script (statement script d k)) round j at).1
      ]

  module _ (a i b : ℕ) (K : List Event) (has : HasRound script a i) where
    abbrev own : Statement
    own = statement script a i

    abbrev join : MsgName
    join = message a i (Join b)

    own-place : slice_get (rounds_like script own a) (round_of script a i) ≡ Some i
    own-place = (rounds-in-order script a i (round_of script a i) has).1 refl

    once : Atomic script rules (Land join ∷ K) → has_joined script rules K own b a (round_of script a i) ≡ false
    once h = ap (join_landed K b a) own-place ∙ (Atomic-head script rules (Land join) K h).once

    -- which round joins
    abbrev IsOwn : (t d round : ℕ) → Bool
    IsOwn t d round = (t == b && d == a) && round == round_of script a i

    landed-is : (t d j : ℕ) → happened (Landed (message d j (Join t))) (Land join ∷ K) ≡ (name_eq (message d j (Join t)) join || happened (Landed (message d j (Join t))) K)
    landed-is t d j = happened-cons (Landed (message d j (Join t))) (Land join) K

    name-own : (t d round j : ℕ) → slice_get (rounds_like script own d) round ≡ Some j → name_eq (message d j (Join t)) join ≡ IsOwn t d round
    unfolding joined_to
    name-own t d round j at =
        same_tests _ _
        (λ same.
        let e = name_eq-true (message d j (Join t)) join same in
        let da : d ≡ a = ap (λ (m : MsgName). m.origin) e in
        let ji : j ≡ i = ap (λ (m : MsgName). m.statement) e in
        let tb : t ≡ b = ap (λ (m : MsgName). joined_to m.leg) e in
        let here = subst (λ x. slice_get (rounds_like script own x) round ≡ Some j) da at ∙ ap Some ji in
        let r = (rounds-in-order script a i round has).0 here in
        and_from _ _ (and_from _ _ (subst (λ x. (t == x) ≡ true) tb (eqb-refl t)) (subst (λ x. (d == x) ≡ true) da (eqb-refl d))) (subst (λ x. (round == x) ≡ true) r (eqb-refl round)))
        (λ is.
        let both = and_parts _ _ is in
        let ends = and_parts _ _ both.0 in
        let tb = eqb-true t b ends.0 in
        let da = eqb-true d a ends.1 in
        let r = eqb-true round (round_of script a i) both.1 in
        let ji : j ≡ i = some-same j i (sym at ∙ ap (λ x. slice_get (rounds_like script own x) round) da ∙ (rounds-in-order script a i round has).1 r) in
        let e : message d j (Join t) ≡ join = λ k. record { origin = da k; statement = ji k; leg = Join (tb k) } in
        subst (λ m. name_eq (message d j (Join t)) m ≡ true) e (name_eq-refl (message d j (Join t))))

    none-own : (t d round : ℕ) → slice_get (rounds_like script own d) round ≡ None → IsOwn t d round ≡ false
    none-own t d round out =
        false_from_ne_true _ (λ is.
        let both = and_parts _ _ is in
        let da = eqb-true d a (and_parts _ _ both.0).1 in
        let here : None ≡ Some i = sym out ∙ ap (λ x. slice_get (rounds_like script own x) round) da ∙ (rounds-in-order script a i round has).1 (eqb-true round (round_of script a i) both.1) in
        cc)

    its-round : (t d round : ℕ) → has_joined script rules (Land join ∷ K) own t d round ≡ (has_joined script rules K own t d round || IsOwn t d round)
    its-round t d round =
        elim (slice_get (rounds_like script own d) round) as (λ o. slice_get (rounds_like script own d) round ≡ o → join_landed (Land join ∷ K) t d o ≡ (join_landed K t d o || IsOwn t d round)) [
          | Some j ↦ λ at. landed-is t d j ∙ swapped (name_eq (message d j (Join t)) join) (happened (Landed (message d j (Join t))) K) ∙ ap (λ x. happened (Landed (message d j (Join t))) K || x) (name-own t d round j at)
          | None ↦ λ out. sym (none-own t d round out)
        ] refl

    -- and no round of the other kind
    kinds-differ : (s : Statement) (t d round j : ℕ) → is_gfence s ≡ not (is_gfence own) → slice_get (rounds_like script s d) round ≡ Some j → name_eq (message d j (Join t)) join ≡ false
    kinds-differ s t d round j other at =
        false_from_ne_true _ (λ same.
        let names = name_eq-true (message d j (Join t)) join same in
        let here = ap (λ (m : MsgName). cond (is_gfence s) (is_gfence (statement script m.origin m.statement)) (is_table script (statement script m.origin m.statement))) (sym names) ∙ round-kind s d round j at in
        not-both-kinds own (ap (λ g. cond g (is_gfence own) (is_table script own)) (sym other) ∙ here))

    no-other : (s : Statement) (t d round : ℕ) → is_gfence s ≡ not (is_gfence own) → has_joined script rules (Land join ∷ K) s t d round ≡ has_joined script rules K s t d round
    no-other s t d round other =
        elim (slice_get (rounds_like script s d) round) as (λ o. slice_get (rounds_like script s d) round ≡ o → join_landed (Land join ∷ K) t d o ≡ join_landed K t d o) [
          | Some j ↦ λ at. landed-is t d j ∙ ap (λ x. x || happened (Landed (message d j (Join t))) K) (kinds-differ s t d round j other at)
          | None ↦ λ out. refl
        ] refl

-- the laws
pub joins-once : HoldsOfAtomic JoinsOnce
joins-once script rules J h = λ a i b K has e. once script rules a i b K has (subst (Atomic script rules) e h)

pub joins-its-round : HoldsOfAtomic JoinsItsRound
joins-its-round script rules J h = λ a i b t d round K has e. ap (λ L. has_joined script rules L (statement script a i) t d round) e ∙ its-round script rules a i b K has t d round

pub joins-no-other : HoldsOfAtomic JoinsNoOther
joins-no-other script rules J h = λ a i b t d round s K has e other. ap (λ L. has_joined script rules L s t d round) e ∙ no-other script rules a i b K has s t d round other
