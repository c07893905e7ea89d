-- When two messages are one, and that their hashes are then alike. It stands here for the laws of the key's `impl`s, which
-- cite no proofs.
use Rattle.std.proofs.Common.{◌≡◌, true, ◌==◌, ◌++◌, sym, ap, ◌∙◌}
use Rattle.std.specs.Bool.{IsTrue}
use Rattle.std.specs.Cmp.{IsEquivalence}
use Rattle.std.specs.Hash as fed
use Rattle.std.proofs.lemmas.Bool.{and_parts, and_from, eqb-true}
use Rattle.lapi_base.specs.Record.Names.{name_eq}
use Rattle.lapi_base.proofs.NameLaws.{name_eq-refl, name_eq-true}
use Rattle.lapi_base.proofs.TestLaws.{eqb-refl, same_tests}
use Rattle.lapi_capture.specs.declared.incoming.Incoming.{Incoming}
use Rattle.lapi_capture.specs.Parts.{is_same}

pub same_refl : (m : Incoming) → is_same m m ≡ true
same_refl m = and_from _ _ (name_eq-refl m.name) (eqb-refl m.to)

pub same_true : (m n : Incoming) → is_same m n ≡ true → m ≡ n
same_true m n h =
    let parts = and_parts (name_eq m.name n.name) (m.to == n.to) h in
    let name = name_eq-true m.name n.name parts.0 in
    let to = eqb-true m.to n.to parts.1 in
    λ i. record { name = name i; to = to i }

same_from : (m n : Incoming) → m ≡ n → is_same m n ≡ true
same_from m n e = ap (is_same m) (sym e) ∙ same_refl m

pub same_laws : IsEquivalence is_same
same_laws = record {
  refl = same_refl;
  symm = λ m n. same_tests (is_same m n) (is_same n m) (λ h. same_from n m (sym (same_true m n h))) (λ h. same_from m n (sym (same_true n m h)));
  congr = λ m n o h. ap (λ x. is_same x o) (same_true m n h);
}

pub hashed_alike : (m n : Incoming) → IsTrue (is_same m n) → fed.u32 m.name.origin ++ fed.u32 m.name.statement ++ fed.u32 m.to ≡ fed.u32 n.name.origin ++ fed.u32 n.name.statement ++ fed.u32 n.to
hashed_alike m n h = ap (λ (x : Incoming). fed.u32 x.name.origin ++ fed.u32 x.name.statement ++ fed.u32 x.to) (same_true m n h)
