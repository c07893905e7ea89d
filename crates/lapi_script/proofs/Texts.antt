-- The canonical text, piece by piece.
use Rattle.std.proofs.Common.{◌≡◌, Option, Result, Ok, Err, subst, ℕ, ◌+◌, List, [], ◌∷◌, ◌++◌, map, refl, sym, ap, ◌∙◌, append_assoc}
use Rattle.std.specs.Prelude.{codes, IfOk}
use Rattle.std.specs.List.{flat_map, join_with_byte}
use Rattle.std.specs.Fmt.{decimal}
use Rattle.std.proofs.lemmas.List.{append-nil}
use Rattle.lapi_base.specs.declared.piece.Piece.{Piece}
use Rattle.lapi_base.specs.declared.address.Addr.{Addr}
use Rattle.lapi_base.specs.declared.statement.Statement.{Statement}
use Rattle.lapi_base.specs.declared.statement.Statement.TheVariants.{Rmw}
use Rattle.lapi_base.specs.declared.statement.RmwOp.{RmwOp}
use Rattle.lapi_base.specs.declared.statement.RmwOp.TheVariants.{Add, Or, Swap, Cas}
use Rattle.lapi_base.specs.declared.schedule.Act.{Act}
use Rattle.lapi_base.specs.declared.schedule.Act.TheVariants.{Step, Poll, Tick, Deliver, Cut, Inject}
use Rattle.lapi_base.specs.declared.schedule.Line.{Line}
use Rattle.lapi_base.specs.declared.script.Script.{Script}
use Rattle.lapi_base.specs.Input.Tokens.{piece_text, canonical, Counter}
use Rattle.lapi_base.specs.Input.Rows.{Column, row_line, row_text, task_row, task_rows, statement_row, head_row, sizes_row, schedule_row, done_row, act_row, line_row, canon}
use Rattle.lapi_script.specs.Inputs.{input_of}
use Rattle.lapi_script.specs.Operations.{operation_text}

-- pieces with commas between them: the first, and each other behind a comma
with_commas : (piece : Piece) (pieces : List Piece) → join_with_byte 44 (map piece_text (piece ∷ pieces)) ≡ piece_text piece ++ flat_map (λ p. 44 ∷ piece_text p) pieces
with_commas piece [] = sym (append-nil (piece_text piece))
with_commas piece (other ∷ pieces) = ap (λ more. piece_text piece ++ 44 ∷ more) (with_commas other pieces)

pub then_others : (old out all : List ℕ) (piece : Piece) (pieces : List Piece) → out ≡ old ++ piece_text piece → all ≡ out ++ flat_map (λ p. 44 ∷ piece_text p) pieces
    → all ≡ old ++ join_with_byte 44 (map piece_text (piece ∷ pieces))
then_others old out all piece pieces first others =
    let more = flat_map (λ p. 44 ∷ piece_text p) pieces in
    others ∙ ap (λ o. o ++ more) first ∙ append_assoc old (piece_text piece) more ∙ ap (λ r. old ++ r) (sym (with_commas piece pieces))

-- a line's lane, and then its act
pub line_parts : (lane : ℕ) (act : Act) → row_line (line_row (record { lane = lane; act = act })) ≡ decimal lane ++ 32 ∷ row_line (act_row act)
line_parts lane (Step t) = refl
line_parts lane (Poll t) = refl
line_parts lane (Tick t) = refl
line_parts lane (Deliver a b k) = refl
line_parts lane (Cut a b k n) = refl
line_parts lane (Inject a b bytes) = refl
line_parts lane (Act.Begin t w) = refl
line_parts lane (Act.End t w) = refl

-- a read-modify-write, part by part
pub rmw_text : (target : ℕ) (op : RmwOp) (at : Addr) (in1 in2 prev : ℕ) (org : Option ℕ) → row_line (statement_row (Rmw target op at in1 in2 prev org))
    ≡ codes "rmw" ++ 32 ∷ (decimal target ++ (operation_text op at in1 in2 ++ 32 ∷ (decimal prev ++ 32 ∷ canonical Counter org)))
rmw_text target Add at in1 in2 prev org = simp append_assoc refl
rmw_text target Or at in1 in2 prev org = simp append_assoc refl
rmw_text target Swap at in1 in2 prev org = simp append_assoc refl
rmw_text target Cas at in1 in2 prev org = simp append_assoc refl

abbrev pub tasks_text : ℕ → List (List Statement) → List ℕ
tasks_text t lists = flat_map row_text (task_rows t lists)

flat_append : (a b : List (List Column)) → flat_map row_text (a ++ b) ≡ flat_map row_text a ++ flat_map row_text b
flat_append [] b = refl
flat_append (row ∷ a) b = ap (λ r. row_text row ++ r) (flat_append a b) ∙ sym (append_assoc (row_text row) (flat_map row_text a) (flat_map row_text b))

pub goes_on : (old out total : List ℕ) (t : ℕ) (list : List Statement) (left rest : List (List Statement))
    → left ≡ list ∷ rest → old ++ tasks_text t left ≡ total → out ≡ old ++ flat_map row_text (task_row t ∷ map statement_row list) → out ++ tasks_text (t + 1) rest ≡ total
goes_on old out total t list left rest first so_far is =
    let one = flat_map row_text (task_row t ∷ map statement_row list) in
    let joined : tasks_text t left ≡ one ++ tasks_text (t + 1) rest =
    ap (tasks_text t) first ∙ flat_append (task_row t ∷ map statement_row list) (task_rows (t + 1) rest) in
    ap (λ o. o ++ tasks_text (t + 1) rest) is ∙ append_assoc old one (tasks_text (t + 1) rest) ∙ ap (λ r. old ++ r) (sym joined) ∙ so_far

pub is_done : (out total : List ℕ) (t : ℕ) (left : List (List Statement)) → left ≡ [] → out ++ tasks_text t left ≡ total → out ≡ total
is_done out total t left none so_far = sym (append-nil out) ∙ ap (λ l. out ++ tasks_text t l) (sym none) ∙ so_far

-- the parts of the whole text
pub whole_text : (script : Script) (schedule : List Line) → canon (input_of script schedule)
    ≡ ((((row_text (head_row script.layout) ++ row_text (sizes_row script)) ++ flat_map row_text (task_rows 0 script.lists)) ++ codes "schedule\n") ++ flat_map row_text (map line_row schedule)) ++ codes "done\n"
whole_text script schedule =
    let head = row_text (head_row script.layout) in
    let sizes = row_text (sizes_row script) in
    let tasks = task_rows 0 script.lists in
    let lines = map line_row schedule in
    let last : List (List Column) = done_row ∷ [] in
    let after : List (List Column) = schedule_row ∷ (lines ++ last) in
    let inner : flat_map row_text (tasks ++ after) ≡ flat_map row_text tasks ++ (codes "schedule\n" ++ (flat_map row_text lines ++ codes "done\n")) =
    flat_append tasks after ∙ ap (λ r. flat_map row_text tasks ++ (codes "schedule\n" ++ r)) (flat_append lines last) in
    ap (λ r. head ++ (sizes ++ r)) inner
    ∙ sym (append_assoc head sizes (flat_map row_text tasks ++ (codes "schedule\n" ++ (flat_map row_text lines ++ codes "done\n"))))
    ∙ sym (append_assoc (head ++ sizes) (flat_map row_text tasks) (codes "schedule\n" ++ (flat_map row_text lines ++ codes "done\n")))
    ∙ sym (append_assoc ((head ++ sizes) ++ flat_map row_text tasks) (codes "schedule\n") (flat_map row_text lines ++ codes "done\n"))
    ∙ sym (append_assoc (((head ++ sizes) ++ flat_map row_text tasks) ++ codes "schedule\n") (flat_map row_text lines) (codes "done\n"))

-- what holds of the canonical text holds of one that was written
pub of_written : {E : Type 0} (Holds : List ℕ → Type 0) (text : List ℕ) (r : Result (List ℕ) E) → Holds text → IfOk r (λ out. out ≡ text) → IfOk r Holds
of_written Holds text (Ok out) holds is = subst Holds (sym is) holds
of_written Holds text (Err e) holds is = tt
