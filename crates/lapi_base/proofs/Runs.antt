-- What lines that are made of other forms say.
use Rattle.std.proofs.Common.{◌≡◌, ℕ, List, Result, Ok, Err, refl, sym, ◌∙◌}
use Rattle.lapi_base.specs.declared.input.LineError.{LineError}
use Rattle.lapi_base.specs.declared.schedule.Act.{Act}
use Rattle.lapi_base.specs.declared.schedule.Line.{Line}
use Rattle.lapi_base.specs.Input.Tokens.{Number}
use Rattle.lapi_base.specs.Input.Forms.{Form, End, Wrong, Next, Take, run, and_then, word_at, value_at, end_at, ◌>>=◌, StatementLine, statement_form, act_form, line_form}

then_ok : {A B C : Type 0} (r : Result A LineError) (f : A → Result B LineError) (g : B → C) → and_then (and_then r f) (λ b. Ok (g b)) ≡ and_then r (λ a. and_then (f a) (λ b. Ok (g b)))
then_ok (Ok x) f g = refl
then_ok (Err e) f g = refl

then_same : {A B : Type 0} (r : Result A LineError) (f g : A → Result B LineError) → ((a : A) → f a ≡ g a) → and_then r f ≡ and_then r g
then_same (Ok x) f g same = same x
then_same (Err e) f g same = refl

abbrev pub line_with : ℕ → Act → Line
line_with lane act = record { lane = lane; act = act }

-- a form, and then a value made of what it says
pub run_then : {A B : Type 0} (form : Form A) (f : A → B) (words : List (List ℕ)) → run (form >>= λ a. End (f a)) words ≡ and_then (run form words) (λ a. Ok (f a))
run_then (End a) f words = sym (then_ok (end_at words) (λ _. Ok a) f)
run_then Wrong f words = refl
run_then (Next more) f words = then_same (word_at words) _ _ (λ x. run_then (more x.0) f x.1) ∙ sym (then_ok (word_at words) (λ x. run (more x.0) x.1) f)
run_then (Take kind more) f words = then_same (value_at kind words) _ _ (λ x. run_then (more x.0) f x.1) ∙ sym (then_ok (value_at kind words) (λ x. run (more x.0) x.1) f)

pub run_statement : (word : List ℕ) (words : List (List ℕ)) → run (statement_form word >>= λ s. End (StatementLine s)) words ≡ and_then (run (statement_form word) words) (λ s. Ok (StatementLine s))
run_statement word words = run_then (statement_form word) (λ s. StatementLine s) words

-- a schedule's line, part by part
pub run_line : (words : List (List ℕ)) → run line_form words
    ≡ and_then (value_at Number words) (λ x. and_then (word_at x.1) (λ y. and_then (run (act_form y.0) y.1) (λ act. Ok (record { lane = x.0; act = act }))))
unfolding line_form
run_line words = then_same (value_at Number words) _ _ (λ x. then_same (word_at x.1) _ _ (λ y. run_then (act_form y.0) (line_with x.0) y.1))
