-- What the kind of a line tells of it.
use Rattle.std.proofs.Common.{◌≡◌, ℕ, zero, suc, false, List, [], ◌∷◌, Some, refl, sym, ap, ◌∙◌, subst}
use Rattle.std.specs.Prelude.{slice_get}
use Rattle.lapi_base.specs.declared.schedule.Act.{Act}
use Rattle.lapi_base.specs.declared.schedule.Act.TheVariants.{Step, Poll, Tick, Deliver, Cut, Inject}
use Rattle.lapi_base.specs.declared.schedule.Line.{Line}
use Rattle.lapi_base.specs.Record.WorldView.{act_at}
use Rattle.lapi_base.proofs.ListLaws.{some-same}
use Rattle.lapi_world.specs.Jobs.{EndsAt, IsBeginLine, IsPlainLine, is_work}
use Rattle.lapi_live.specs.declared.kinds.Kind.{Kind}
use Rattle.lapi_live.specs.declared.kinds.Kind.TheVariants as kinds
use Rattle.lapi_live.specs.Kinds.{kind_of, kinds_of}

kind-at : (schedule : List Line) (n : ℕ) (k : Kind) → slice_get (kinds_of schedule) n ≡ Some k → (act : Act) × (act_at schedule n ≡ Some act) × (kind_of act ≡ k)
kind-at [] n k e = absurd (cc)
kind-at (l ∷ ls) zero k e = (l.act, refl, (let q : kind_of l.act ≡ k = cc in q))
kind-at (l ∷ ls) (suc n) k e = kind-at ls n k e

plain : (act : Act) → kind_of act ≡ kinds.Plain → is_work act ≡ false
plain (Step t) e = refl
plain (Poll t) e = refl
plain (Tick t) e = refl
plain (Deliver a b k) e = refl
plain (Cut a b k n) e = refl
plain (Inject a b bytes) e = refl
plain (Act.Begin t w) e = absurd (cc)
plain (Act.End t w) e = absurd (cc)

begin : (act : Act) (t w : ℕ) → kind_of act ≡ kinds.Begin t w → act ≡ Act.Begin t w
begin (Step a) t w e = absurd (cc)
begin (Poll a) t w e = absurd (cc)
begin (Tick a) t w e = absurd (cc)
begin (Deliver a b k) t w e = absurd (cc)
begin (Cut a b k n) t w e = absurd (cc)
begin (Inject a b bytes) t w e = absurd (cc)
begin (Act.Begin a v) t w e = let p : a ≡ t = cc in let q : v ≡ w = cc in ap (λ (x : ℕ). Act.Begin x v) p ∙ ap (λ (x : ℕ). Act.Begin t x) q
begin (Act.End a v) t w e = absurd (cc)

end : (act : Act) (t w : ℕ) → kind_of act ≡ kinds.End t w → act ≡ Act.End t w
end (Step a) t w e = absurd (cc)
end (Poll a) t w e = absurd (cc)
end (Tick a) t w e = absurd (cc)
end (Deliver a b k) t w e = absurd (cc)
end (Cut a b k n) t w e = absurd (cc)
end (Inject a b bytes) t w e = absurd (cc)
end (Act.End a v) t w e = let p : a ≡ t = cc in let q : v ≡ w = cc in ap (λ (x : ℕ). Act.End x v) p ∙ ap (λ (x : ℕ). Act.End t x) q
end (Act.Begin a v) t w e = absurd (cc)

module _ (schedule : List Line) (ks : List Kind) (is : ks ≡ kinds_of schedule) (n : ℕ) where
  of-kind : (k : Kind) → slice_get ks n ≡ Some k → (act : Act) × (act_at schedule n ≡ Some act) × (kind_of act ≡ k)
  of-kind k e = kind-at schedule n k (subst (λ (xs : List Kind). slice_get xs n ≡ Some k) is e)

  pub plain_line : (k : Kind) → slice_get ks n ≡ Some k → k ≡ kinds.Plain → IsPlainLine schedule n
  plain_line k e p = let a = of-kind k e in λ act at. plain act (ap kind_of (some-same act a.0 (sym at ∙ a.1)) ∙ a.2 ∙ p)

  pub begin_line : (k : Kind) (t w : ℕ) → slice_get ks n ≡ Some k → k ≡ kinds.Begin t w → IsBeginLine schedule n
  begin_line k t w e p = let a = of-kind k e in (t, w, a.1 ∙ ap Some (begin a.0 t w (a.2 ∙ p)))

  pub end_line : (k : Kind) (t w : ℕ) → slice_get ks n ≡ Some k → k ≡ kinds.End t w → EndsAt schedule n t w
  end_line k t w e p = let a = of-kind k e in a.1 ∙ ap Some (end a.0 t w (a.2 ∙ p))
