-- What is read keeps the bounds of its kinds, and what keeps them can be written.
use Rattle.std.proofs.Common.{◌≡◌, ◌≢◌, ℕ, zero, suc, ◌<◌, ◌≤◌, List, [], ◌∷◌, length, refl, ap, Bool, true, false, arith, Some, None, inl, inr, nat_lt, nat_le}
use Rattle.std.specs.Prelude.{IsTrue, ◌&&◌, not, slice_index}
use Rattle.std.specs.List.{AllZip, AllByRecursion, list_all}
use Rattle.std.proofs.lemmas.Bool.{leb-true, ltb-true, lt-ltb, le-leb, false≢true}
use Rattle.hex.specs.Hex.{IsBytes}
use Rattle.hex.proofs.HexLemmas.{decode_of-ok}
use Rattle.lapi_base.specs.declared.address.Addr.{Addr}
use Rattle.lapi_base.specs.declared.address.Addr.TheVariants.{Plain, Table}
use Rattle.lapi_base.specs.declared.piece.Piece.{Piece}
use Rattle.lapi_base.specs.declared.message.Leg.{Leg}
use Rattle.lapi_base.specs.declared.message.Leg.TheVariants.{Go, Back, Note, Echo, Join}
use Rattle.lapi_base.specs.declared.vector.Vector.{Vector}
use Rattle.lapi_base.specs.declared.vector.Vector.TheVariants.{Stride}
use Rattle.lapi_base.specs.declared.statement.RmwOp.TheVariants.{Add, Or, Swap, Cas}
use Rattle.lapi_base.specs.declared.statement.Statement.{Statement}
use Rattle.lapi_base.specs.declared.statement.Statement.TheVariants.{Store, Put, Get, Putv, Getv, Rmw, Am, Wait, Set, Read, Fence, Gfence}
use Rattle.lapi_base.specs.declared.schedule.Act.{Act}
use Rattle.lapi_base.specs.declared.schedule.Act.TheVariants.{Step, Poll, Tick, Deliver, Cut, Inject}
use Rattle.lapi_base.specs.declared.schedule.Line.{Line}
use Rattle.lapi_base.specs.declared.script.Script.{Script}
use Rattle.lapi_base.specs.Record.Valid.{IsU32, IsByte, IsCounter, IsAddress, IsPlain, IsPiece, ValidVector, AtPlain, ValidStatement, ValidAct, ValidLine}
use Rattle.lapi_base.specs.Packet.Spelling.{spells_packet}
use Rattle.lapi_base.specs.Input.Tokens.{Kind, Number, Counter, Hex, OptionalHex, Address, PlainVector, TargetVector, Dotted, LegWord, Value, Stands, IsPlainAddress, IsTargetAddress, IsPieceText, IsVectorText, IsLegText}
use Rattle.lapi_base.specs.Input.Rows.{Column, Word, Field, IsRow, statement_row, act_row, line_row}
use Rattle.lapi_base.specs.Input.Reading.{has_few_pieces, keeps_pieces, keeps_bytes, keeps_injected, names_known}
use Rattle.lapi_base.specs.Input.Faults.{HasOperand}

abbrev pub FitVector : Vector → Type 0
FitVector (Vector.List pieces) = (1 ≤ length pieces) × AllByRecursion IsPiece pieces
FitVector (Stride base block stride count) = (1 ≤ count) × IsU32 count × IsAddress base × IsU32 block × IsU32 stride

abbrev pub FitLeg : Leg → Type 0
FitLeg Go = Unit {0}
FitLeg Back = Unit {0}
FitLeg Note = Unit {0}
FitLeg Echo = Unit {0}
FitLeg (Join d) = IsU32 d

-- what a word of the kind can stand for
abbrev pub Fit : (kind : Kind) → Value kind → Type 0
Fit Number n = IsU32 n
Fit Counter c = IsCounter c
Fit Hex bytes = AllByRecursion IsByte bytes × (bytes ≢ [])
Fit OptionalHex bytes = AllByRecursion IsByte bytes
Fit Address at = IsAddress at
Fit PlainVector v = FitVector v × AtPlain v
Fit TargetVector v = FitVector v
Fit Dotted x = IsU32 x.0 × IsU32 x.1
Fit LegWord leg = FitLeg leg

-- a word of bytes from + to z, and not of none
abbrev pub is_plain_word : List ℕ → Bool
is_plain_word text = nat_lt 0 (length text) && list_all (λ b. nat_le 43 b && nat_le b 122) text

abbrev pub PartFits : Column → Type 0
PartFits (Word text) = IsTrue (is_plain_word text)
PartFits (Field kind v) = Fit kind v

-- the same of the values alone
abbrev pub FieldFits : Column → Type 0
FieldFits (Word text) = Unit {0}
FieldFits (Field kind v) = Fit kind v

-- ---- what stands in a word fits

all_bytes : (bytes : List ℕ) → IsBytes bytes → AllByRecursion IsByte bytes
all_bytes [] is = tt
all_bytes (b ∷ bytes) is = (is 0, all_bytes bytes (λ i. is (suc i)))

pub is_bytes : (bytes : List ℕ) → AllByRecursion IsByte bytes → (i : ℕ) → slice_index bytes i < 256
is_bytes [] all i = omega arith
is_bytes (b ∷ bytes) all zero = all.0
is_bytes (b ∷ bytes) all (suc i) = is_bytes bytes all.1 i

plain_fit : (at : Addr) (word : List ℕ) → IsPlainAddress at word → IsAddress at
plain_fit (Plain n) word is = is.1
plain_fit (Table round offset) word is = absurd is

target_fit : (at : Addr) (word : List ℕ) → IsTargetAddress at word → IsAddress at
target_fit (Plain n) word is = is.1
target_fit (Table round offset) word (r, isr, inl h) = (isr.1, omega (arith, h.1))
target_fit (Table round offset) word (r, isr, inr (o, iso, e)) = (isr.1, iso.1)

some_length : {A : Type 0} (xs : List A) → xs ≢ [] → 1 ≤ length xs
some_length [] some = absurd (some refl)
some_length (x ∷ xs) some = omega arith

module _ (At : Addr → List ℕ → Type 0) (fit : (at : Addr) (word : List ℕ) → At at word → IsAddress at) where
  pieces_fit : (pieces : List Piece) (texts : List (List ℕ)) → AllZip (IsPieceText At) pieces texts → AllByRecursion IsPiece pieces
  pieces_fit [] [] z = tt
  pieces_fit [] (text ∷ texts) z = absurd z
  pieces_fit (piece ∷ pieces) [] z = absurd z
  pieces_fit (piece ∷ pieces) (text ∷ texts) ((at, len, is, isl, e), z) = ((fit piece.at at is, isl.1), pieces_fit pieces texts z)

  vector_fit : (v : Vector) (word : List ℕ) → IsVectorText At v word → FitVector v
  vector_fit (Vector.List pieces) word (texts, some, z, e) = (some_length pieces some, pieces_fit pieces texts z)
  vector_fit (Stride base block stride count) word (b, k, s, c, isb, isk, iss, isc, some, e) = (some, isc.1, fit base b isb, isk.1, iss.1)

plain_at : (at : Addr) (word : List ℕ) → IsPlainAddress at word → IsPlain at
plain_at (Plain n) word is = tt
plain_at (Table round offset) word is = absurd is

pieces_plain : (pieces : List Piece) (texts : List (List ℕ)) → AllZip (IsPieceText IsPlainAddress) pieces texts → AllByRecursion (λ p. IsPlain p.at) pieces
pieces_plain [] [] z = tt
pieces_plain [] (text ∷ texts) z = absurd z
pieces_plain (piece ∷ pieces) [] z = absurd z
pieces_plain (piece ∷ pieces) (text ∷ texts) ((at, len, is, isl, e), z) = (plain_at piece.at at is, pieces_plain pieces texts z)

vector_plain : (v : Vector) (word : List ℕ) → IsVectorText IsPlainAddress v word → AtPlain v
vector_plain (Vector.List pieces) word (texts, some, z, e) = pieces_plain pieces texts z
vector_plain (Stride base block stride count) word (b, k, s, c, isb, isk, iss, isc, some, e) = plain_at base b isb

leg_fit : (leg : Leg) (word : List ℕ) → IsLegText leg word → FitLeg leg
leg_fit Go word is = tt
leg_fit Back word is = tt
leg_fit Note word is = tt
leg_fit Echo word is = tt
leg_fit (Join d) word (n, isn, e) = isn.1

pub stands_fit : (kind : Kind) (v : Value kind) (word : List ℕ) → Stands kind v word → Fit kind v
stands_fit Number n word is = is.1
stands_fit Counter None word is = tt
stands_fit Counter (Some n) word is = is.1
stands_fit Hex bytes word is = (all_bytes bytes (decode_of-ok word bytes is.0).3, is.1)
stands_fit OptionalHex [] word is = tt
stands_fit OptionalHex (b ∷ bytes) word is = all_bytes (b ∷ bytes) (decode_of-ok word (b ∷ bytes) is.0).3
stands_fit Address at word is = target_fit at word is
stands_fit PlainVector v word is = (vector_fit IsPlainAddress plain_fit v word is, vector_plain v word is)
stands_fit TargetVector v word is = vector_fit IsTargetAddress target_fit v word is
stands_fit Dotted x word (t, s, ist, iss, e) = (ist.1, iss.1)
stands_fit LegWord leg word is = leg_fit leg word is

pub row_fit : (row : List Column) (words : List (List ℕ)) → IsRow row words → AllByRecursion FieldFits row
row_fit [] [] z = tt
row_fit [] (word ∷ words) z = absurd z
row_fit (p ∷ row) [] z = absurd z
row_fit (Word text ∷ row) (word ∷ words) z = (tt, row_fit row words z.1)
row_fit (Field kind v ∷ row) (word ∷ words) z = (stands_fit kind v word z.0, row_fit row words z.1)

-- ---- statements

pub both_true : (a b : Bool) → (a && b) ≡ true → (a ≡ true) × (b ≡ true)
both_true true b e = (refl, e)
both_true false b e = (e, absurd (false≢true e))

vector_valid : (v : Vector) → FitVector v → has_few_pieces v ≡ true → ValidVector v
vector_valid (Vector.List pieces) fit few = (fit.0, leb-true _ _ few, fit.1)
vector_valid (Stride base block stride count) fit few = (fit.0, leb-true _ _ few, fit.2, fit.3, fit.4)

vector_fits : (v : Vector) → ValidVector v → FitVector v
vector_fits (Vector.List pieces) valid = (valid.0, valid.2)
vector_fits (Stride base block stride count) valid = (valid.0, omega (arith, valid.1), valid.2, valid.3, valid.4)

-- what has the row of a statement, and keeps the limits that are judged, is valid
pub valid_statement : (s : Statement) → AllByRecursion FieldFits (statement_row s) → HasOperand s → keeps_pieces s ≡ true → keeps_bytes s ≡ true → ValidStatement s
unfolding keeps_pieces keeps_bytes
valid_statement (Store at bytes) (_, (a, (b, _))) o p e = (a, some_length bytes b.1, leb-true _ _ e, b.0)
valid_statement (Put target to from len tgt org cmpl) (_, (a, (b, (c, (d, (f, (g, (h, _)))))))) o p e = (a, b, c, d, f, g, h)
valid_statement (Get target from to len tgt org) (_, (a, (b, (c, (d, (f, (g, _))))))) o p e = (a, b, c, d, f, g)
valid_statement (Putv target to from tgt org cmpl) (_, (a, (b, (c, (d, (f, (g, _))))))) o p e =
    let few = both_true _ _ p in
    (a, vector_valid to b few.0, vector_valid from c.0 few.1, c.1, d, f, g)
valid_statement (Getv target from to tgt org) (_, (a, (b, (c, (d, (f, _)))))) o p e =
    let few = both_true _ _ p in
    (a, vector_valid from b few.0, vector_valid to c.0 few.1, c.1, d, f)
valid_statement (Rmw target Add at in1 in2 prev org) (_, (a, (_, (b, (c, (d, (f, _))))))) o p e = (a, b, c, omega (arith, o), o, d, f)
valid_statement (Rmw target Or at in1 in2 prev org) (_, (a, (_, (b, (c, (d, (f, _))))))) o p e = (a, b, c, omega (arith, o), o, d, f)
valid_statement (Rmw target Swap at in1 in2 prev org) (_, (a, (_, (b, (c, (d, (f, _))))))) o p e = (a, b, c, omega (arith, o), o, d, f)
valid_statement (Rmw target Cas at in1 in2 prev org) (_, (a, (_, (b, (c, (c2, (d, (f, _)))))))) o p e = (a, b, c, c2, tt, d, f)
valid_statement (Am target handler header from len tgt org cmpl) (_, (a, (b, (c, (d, (f, (g, (h, (i, _))))))))) o p e = (a, b, leb-true _ _ e, c, d, f, g, h, i)
valid_statement (Wait c value) (_, (a, (b, _))) o p e = (a, b)
valid_statement (Set c value) (_, (a, (b, _))) o p e = (a, b)
valid_statement (Read c) (_, (a, _)) o p e = a
valid_statement Fence f o p e = tt
valid_statement Gfence f o p e = tt
valid_statement (Statement.Addr at) (_, (a, _)) o p e = a

no_nil : {A : Type 0} (xs : List A) → 1 ≤ length xs → xs ≢ []
no_nil [] some nil = absurd (omega (arith, some))
no_nil (x ∷ xs) some nil = omega (arith, ap (λ ys. length ys) nil)

-- a valid statement's row can be written
pub statement_fits : (s : Statement) → ValidStatement s → AllByRecursion PartFits (statement_row s)
statement_fits (Store at bytes) (a, b, c, d) = (refl, (a, ((d, no_nil bytes b), tt)))
statement_fits (Put target to from len tgt org cmpl) (a, b, c, d, e, f, g) = (refl, (a, (b, (c, (d, (e, (f, (g, tt))))))))
statement_fits (Get target from to len tgt org) (a, b, c, d, e, f) = (refl, (a, (b, (c, (d, (e, (f, tt)))))))
statement_fits (Putv target to from tgt org cmpl) (a, b, c, d, e, f, g) = (refl, (a, (vector_fits to b, ((vector_fits from c, d), (e, (f, (g, tt)))))))
statement_fits (Getv target from to tgt org) (a, b, c, d, e, f) = (refl, (a, (vector_fits from b, ((vector_fits to c, d), (e, (f, tt))))))
statement_fits (Rmw target Add at in1 in2 prev org) (a, b, c, d, e, f, g) = (refl, (a, (refl, (b, (c, (f, (g, tt)))))))
statement_fits (Rmw target Or at in1 in2 prev org) (a, b, c, d, e, f, g) = (refl, (a, (refl, (b, (c, (f, (g, tt)))))))
statement_fits (Rmw target Swap at in1 in2 prev org) (a, b, c, d, e, f, g) = (refl, (a, (refl, (b, (c, (f, (g, tt)))))))
statement_fits (Rmw target Cas at in1 in2 prev org) (a, b, c, d, e, f, g) = (refl, (a, (refl, (b, (c, (d, (f, (g, tt))))))))
statement_fits (Am target handler header from len tgt org cmpl) (a, b, c, d, e, f, g, h, i) = (refl, (a, (b, (d, (e, (f, (g, (h, (i, tt)))))))))
statement_fits (Wait c value) (a, b) = (refl, (a, (b, tt)))
statement_fits (Set c value) (a, b) = (refl, (a, (b, tt)))
statement_fits (Read c) a = (refl, (a, tt))
statement_fits Fence _ = (refl, tt)
statement_fits Gfence _ = (refl, tt)
statement_fits (Statement.Addr at) a = (refl, (a, tt))

-- and its limits are kept
vector_few : (v : Vector) → ValidVector v → has_few_pieces v ≡ true
vector_few (Vector.List pieces) valid = le-leb _ _ valid.1
vector_few (Stride base block stride count) valid = le-leb _ _ valid.1

pub pieces_kept : (s : Statement) → ValidStatement s → keeps_pieces s ≡ true
unfolding keeps_pieces
pieces_kept (Putv target to from tgt org cmpl) (a, b, c, d, e, f, g) = rw (vector_few to b, vector_few from c) refl
pieces_kept (Getv target from to tgt org) (a, b, c, d, e, f) = rw (vector_few from b, vector_few to c) refl
pieces_kept (Store at bytes) valid = refl
pieces_kept (Put target to from len tgt org cmpl) valid = refl
pieces_kept (Get target from to len tgt org) valid = refl
pieces_kept (Rmw target op at in1 in2 prev org) valid = refl
pieces_kept (Am target handler header from len tgt org cmpl) valid = refl
pieces_kept (Wait c value) valid = refl
pieces_kept (Set c value) valid = refl
pieces_kept (Read c) valid = refl
pieces_kept Fence valid = refl
pieces_kept Gfence valid = refl
pieces_kept (Statement.Addr at) valid = refl

pub bytes_kept : (s : Statement) → ValidStatement s → keeps_bytes s ≡ true
unfolding keeps_bytes
bytes_kept (Store at bytes) (a, b, c, d) = le-leb _ _ c
bytes_kept (Am target handler header from len tgt org cmpl) (a, b, c, d, e, f, g, h, i) = le-leb _ _ c
bytes_kept (Put target to from len tgt org cmpl) valid = refl
bytes_kept (Get target from to len tgt org) valid = refl
bytes_kept (Putv target to from tgt org cmpl) valid = refl
bytes_kept (Getv target from to tgt org) valid = refl
bytes_kept (Rmw target op at in1 in2 prev org) valid = refl
bytes_kept (Wait c value) valid = refl
bytes_kept (Set c value) valid = refl
bytes_kept (Read c) valid = refl
bytes_kept Fence valid = refl
bytes_kept Gfence valid = refl
bytes_kept (Statement.Addr at) valid = refl

pub operand_of : (s : Statement) → ValidStatement s → HasOperand s
operand_of (Rmw target op at in1 in2 prev org) (a, b, c, d, e, f, g) = e
operand_of (Store at bytes) valid = tt
operand_of (Put target to from len tgt org cmpl) valid = tt
operand_of (Get target from to len tgt org) valid = tt
operand_of (Putv target to from tgt org cmpl) valid = tt
operand_of (Getv target from to tgt org) valid = tt
operand_of (Am target handler header from len tgt org cmpl) valid = tt
operand_of (Wait c value) valid = tt
operand_of (Set c value) valid = tt
operand_of (Read c) valid = tt
operand_of Fence valid = tt
operand_of Gfence valid = tt
operand_of (Statement.Addr at) valid = tt

-- ---- schedule lines

not_false : (b : Bool) → not b ≡ true → b ≡ false
not_false true e = absurd (false≢true e)
not_false false e = refl

pub valid_act : (script : Script) (a : Act) → AllByRecursion FieldFits (act_row a) → names_known script a ≡ true → keeps_injected a ≡ true → ValidAct script spells_packet a
unfolding names_known keeps_injected
valid_act script (Step t) f n e = ltb-true _ _ n
valid_act script (Poll t) f n e = ltb-true _ _ n
valid_act script (Tick t) f n e = ltb-true _ _ n
valid_act script (Deliver a b k) (_, (_, (_, (fk, _)))) n e = let both = both_true _ _ n in (ltb-true _ _ both.0, ltb-true _ _ both.1, fk)
valid_act script (Cut a b k m) (_, (_, (_, (fk, (fm, _))))) n e = let both = both_true _ _ n in (ltb-true _ _ both.0, ltb-true _ _ both.1, fk, fm)
valid_act script (Inject a b bytes) (_, (_, (_, (fb, _)))) n e =
    let outer = both_true _ _ n in
    let both = both_true _ _ outer.0 in
    (ltb-true _ _ both.0, ltb-true _ _ both.1, leb-true _ _ e, fb, not_false (spells_packet bytes) outer.1)
valid_act script (Act.Begin t w) f n e = let both = both_true _ _ n in (ltb-true _ _ both.0, ltb-true _ _ both.1)
valid_act script (Act.End t w) f n e = let both = both_true _ _ n in (ltb-true _ _ both.0, ltb-true _ _ both.1)

pub act_known : (script : Script) (a : Act) → ValidAct script spells_packet a → names_known script a ≡ true
unfolding names_known
act_known script (Step t) v = lt-ltb _ _ v
act_known script (Poll t) v = lt-ltb _ _ v
act_known script (Tick t) v = lt-ltb _ _ v
act_known script (Deliver a b k) v = rw (lt-ltb _ _ v.0, lt-ltb _ _ v.1) refl
act_known script (Cut a b k n) v = rw (lt-ltb _ _ v.0, lt-ltb _ _ v.1) refl
act_known script (Inject a b bytes) v = rw (lt-ltb _ _ v.0, lt-ltb _ _ v.1, v.4) refl
act_known script (Act.Begin t w) v = rw (lt-ltb _ _ v.0, lt-ltb _ _ v.1) refl
act_known script (Act.End t w) v = rw (lt-ltb _ _ v.0, lt-ltb _ _ v.1) refl

pub injected_kept : (script : Script) (a : Act) → ValidAct script spells_packet a → keeps_injected a ≡ true
unfolding keeps_injected
injected_kept script (Inject a b bytes) v = le-leb _ _ v.2
injected_kept script (Step t) v = refl
injected_kept script (Poll t) v = refl
injected_kept script (Tick t) v = refl
injected_kept script (Deliver a b k) v = refl
injected_kept script (Cut a b k n) v = refl
injected_kept script (Act.Begin t w) v = refl
injected_kept script (Act.End t w) v = refl

-- a valid line's row can be written, where there are few tasks and workers
pub line_fits : (script : Script) (line : Line) → script.tasks ≤ 8 → script.workers ≤ 4 → ValidLine script spells_packet line → AllByRecursion PartFits (line_row line)
line_fits script line tasks workers valid = (omega (arith, valid.0), act_fits line.act valid.1)
  where
    task : (t : ℕ) → t < script.tasks → IsU32 t
    task t lt = omega (arith, lt, tasks)

    worker : (w : ℕ) → w < script.workers → IsU32 w
    worker w lt = omega (arith, lt, workers)

    act_fits : (a : Act) → ValidAct script spells_packet a → AllByRecursion PartFits (act_row a)
    act_fits (Step t) v = (refl, (task t v, tt))
    act_fits (Poll t) v = (refl, (task t v, tt))
    act_fits (Tick t) v = (refl, (task t v, tt))
    act_fits (Deliver a b k) v = (refl, (task a v.0, (task b v.1, (v.2, tt))))
    act_fits (Cut a b k n) v = (refl, (task a v.0, (task b v.1, (v.2, (v.3, tt)))))
    act_fits (Inject a b bytes) v = (refl, (task a v.0, (task b v.1, (v.3, tt))))
    act_fits (Act.Begin t w) v = (refl, (task t v.0, (worker w v.1, tt)))
    act_fits (Act.End t w) v = (refl, (task t v.0, (worker w v.1, tt)))
