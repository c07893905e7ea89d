use Rattle.std.proofs.Common.{◌≡◌, ℕ, ◌<◌, ◌≤◌, ◌*◌, false}
use Rattle.lapi_collect.specs.FlagWords.{is_in}
use Rattle.lapi_collect.proofs.flag_words.least_between.Given as goal

abbrev pub invariant-loop-i : goal.invariant-loop-i
invariant-loop-i l = (n : ℕ) → 64 * l.first ≤ n → n < 64 * l.i → is_in l.words n ≡ false
