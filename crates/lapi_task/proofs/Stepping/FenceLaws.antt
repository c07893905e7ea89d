-- Whether a fence passes, and what its step does.
use Rattle.std.proofs.Common.{◌≡◌, ℕ, ◌<◌, Bool, true, false, IsTrue, ◌↔◌, ◌&&◌, ◌||◌, not, refl, sym, ap, ◌∙◌}
use Rattle.lapi_base.specs.declared.script.Script.{Script}
use Rattle.lapi_base.specs.declared.rule.Rules.{Rules}
use Rattle.lapi_base.specs.Record.Below.{every_below}
use Rattle.lapi_base.specs.Record.Names.{happened, Issued}
use Rattle.lapi_base.specs.Record.Operations.{statement, is_data}
use Rattle.lapi_base.specs.Record.Wires.{Run, data_done, data_clear}
use Rattle.lapi_base.proofs.BelowLaws.{every_below-at, every_below-from, every_below-same}
use Rattle.lapi_base.proofs.TestLaws.{same_tests}
use Rattle.std.proofs.lemmas.Bool.{not-true}
use Rattle.lapi_collect.specs.Outstanding.{is_open}
use Rattle.lapi_task.specs.declared.unfinished.Unfinished.{Unfinished}
use Rattle.lapi_task.specs.Unfinished.{Tracks}

passes-is : (a b c : Bool) → (not (a && b) || c) ≡ not (a && (b && not c))
passes-is true true true = refl
passes-is true true false = refl
passes-is true false c = refl
passes-is false b c = refl

pub clear-is : (script : Script) (rules : Rules) (t : ℕ) (u : Unfinished) (r : Run) (n : ℕ) (result : Bool) → Tracks script rules t u r → (IsTrue result ↔ ((i : ℕ) → i < n → is_open u.undone i ≡ false)) → result ≡ data_clear script r t n
unfolding data_clear
clear-is script rules t u r n result h is =
    same_tests result (every_below n (λ i. not (is_open u.undone i)))
    (λ yes. every_below-from n (λ i. not (is_open u.undone i)) (λ i l. ap not (is.0 yes i l)))
    (λ all. is.1 (λ i l. not-true (is_open u.undone i) (every_below-at n (λ i. not (is_open u.undone i)) i all l)))
    ∙ every_below-same n (λ i. not (is_open u.undone i)) (λ i. not (is_data (statement script t i) && happened (Issued t i) r.journal) || data_done script r t i) (λ i l. ap not (h.undone i) ∙ sym (passes-is (is_data (statement script t i)) (happened (Issued t i) r.journal) (data_done script r t i)))
