-- A line of a plan says what its words spell, and only that.
use Rattle.std.proofs.Common.{◌≡◌, ℕ, List, [], ◌∷◌, refl, sym, ◌∙◌, subst, Ok}
use Rattle.std.specs.Prelude.{codes}
use Rattle.lapi_base.specs.declared.input.LineError.TheVariants.{Syntax}
use Rattle.lapi_base.specs.Input.Tokens.{Number, Stands}
use Rattle.lapi_base.specs.Input.Forms.{Form, End, Take, run, expect, number}
use Rattle.lapi_base.specs.Input.Rows.{IsRow}
use Rattle.lapi_blocks.specs.declared.plan.Op.{Op}
use Rattle.lapi_blocks.specs.declared.plan.Op.TheVariants.{Set, Get}
use Rattle.lapi_blocks.specs.declared.plan.Plan.{Plan}
use Rattle.lapi_text.proofs.Rules.{Spelled, Matches, Table, spelled, choose_says, err_ok, expected}
use Rattle.lapi_array.specs.PlanRows.{head_row, grid_row, op_row}
use Rattle.lapi_array.specs.PlanReading.{head_form, without_ops, grid_form, set_form, get_form, ops, op_form, op_line_form}

-- ---- the head and the sizes

abbrev pub HeadSays : ℕ → List (List ℕ) → Type 0
HeadSays version words = version ≡ 1 → IsRow head_row words

head_chain : (version : ℕ) (words rest : List (List ℕ)) → words ≡ codes "array" ∷ rest → Spelled number version rest → HeadSays version words
head_chain version words rest e (n, w, r, e2, stands, (is, end)) one = rw (e, e2, end) (refl, (subst (λ k. Stands Number k w) (sym is ∙ one) stands, tt))

pub head_says : (words : List (List ℕ)) (version : ℕ) → run head_form words ≡ Ok version → HeadSays version words
unfolding head_form
head_says words version e =
    let a = expected (codes "array") number version words (spelled (expect (codes "array") number) version words e) in
    head_chain version words a.0 a.1 a.2

-- the sizes of a plan, and no operations yet
pub record GridSays (plan : Plan) (words : List (List ℕ)) : Type 0 where
  pub row : IsRow (grid_row plan) words
  pub none : plan.ops ≡ []

abbrev width_part : (p q height : ℕ) → Form Plan
width_part p q height = Take Number (λ width. End (without_ops p q height width))

abbrev block_part : (p q : ℕ) → Form Plan
block_part p q = Take Number (λ height. width_part p q height)

abbrev grid_part : Form Plan
grid_part = Take Number (λ p. Take Number (λ q. expect (codes "block") (block_part p q)))

grid_chain : (plan : Plan) (words rest : List (List ℕ)) → words ≡ codes "grid" ∷ rest → Spelled grid_part plan rest → GridSays plan words
grid_chain plan words rest e (p, wp, r, ep, sp, (q, wq, r2, eq, sq, more)) =
    let b = expected (codes "block") (block_part p q) plan r2 more in
    at b.0 b.1 b.2
  where
    at : (r3 : List (List ℕ)) → r2 ≡ codes "block" ∷ r3 → Spelled (block_part p q) plan r3 → GridSays plan words
    at r3 eb (h, wh, r4, eh, sh, (w, ww, r5, ew, sw, (is, end))) =
        rw (is, e, ep, eq, eb, eh, ew, end) (record { row = (refl, (sp, (sq, (refl, (sh, (sw, tt)))))); none = refl })

pub grid_says : (words : List (List ℕ)) (plan : Plan) → run grid_form words ≡ Ok plan → GridSays plan words
unfolding grid_form
grid_says words plan e =
    let a = expected (codes "grid") grid_part plan words (spelled (expect (codes "grid") grid_part) plan words e) in
    grid_chain plan words a.0 a.1 a.2

-- ---- the operations

abbrev pub OpSays : Op → List (List ℕ) → Type 0
OpSays op words = IsRow (op_row op) words

set_row : (op : Op) (words : List (List ℕ)) → Spelled set_form op words → OpSays op (codes "set" ∷ words)
unfolding set_form
set_row op words (a, w, r, e, st, (a2, w2, r2, e2, st2, (a3, w3, r3, e3, st3, (a4, w4, r4, e4, st4, (a5, w5, r5, e5, st5, (a6, w6, r6, e6, st6, (is, end))))))) =
    rw (is, e, e2, e3, e4, e5, e6, end) (refl, (st, (st2, (st3, (st4, (st5, (st6, tt)))))))

get_row : (op : Op) (words : List (List ℕ)) → Spelled get_form op words → OpSays op (codes "get" ∷ words)
unfolding get_form
get_row op words (a, w, r, e, st, (a2, w2, r2, e2, st2, (a3, w3, r3, e3, st3, (a4, w4, r4, e4, st4, (a5, w5, r5, e5, st5, (is, end)))))) =
    rw (is, e, e2, e3, e4, e5, end) (refl, (st, (st2, (st3, (st4, (st5, tt))))))

ops_say : Table OpSays ops
ops_say = (λ op words sp. set_row op words sp, (λ op words sp. get_row op words sp, tt))

pub op_says : (words : List (List ℕ)) (op : Op) → run op_line_form words ≡ Ok op → OpSays op words
op_says [] op e = absurd (err_ok Syntax op e)
op_says (word ∷ words) op e = choose_says OpSays ops ops_say word words op (spelled (op_form word) op words e)

-- ---- what the rows spell is said

pub head_matches : Matches head_form 1 head_row
unfolding head_form
head_matches = (codes "array", _, refl, (1, _, refl, (refl, refl)))

pub grid_matches : (p q height width : ℕ) → Matches grid_form (without_ops p q height width) (grid_row (without_ops p q height width))
unfolding grid_form
grid_matches p q height width =
    (codes "grid", _, refl, (p, _, refl, (q, _, refl, (codes "block", _, refl, (height, _, refl, (width, _, refl, (refl, refl)))))))

pub op_matches : (op : Op) → Matches op_line_form op (op_row op)
unfolding set_form get_form
op_matches (Set task row col rows cols values) =
    (codes "set", _, refl, (task, _, refl, (row, _, refl, (col, _, refl, (rows, _, refl, (cols, _, refl, (values, _, refl, (refl, refl))))))))
op_matches (Get task row col rows cols) =
    (codes "get", _, refl, (task, _, refl, (row, _, refl, (col, _, refl, (rows, _, refl, (cols, _, refl, (refl, refl)))))))
