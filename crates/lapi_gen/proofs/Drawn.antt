-- What the draws of a batch give.
use Rattle.std.proofs.Common.{◌≡◌, ℕ, ◌+◌, ◌-◌, ◌%◌, ◌<◌, ◌≤◌, [], ◌∷◌, refl, ap, ◌∙◌, arith}
use Rattle.lapi_base.specs.Record.Below.{below}
use Rattle.lapi_base.specs.Record.Operations.{numbers_below}
use Rattle.lapi_gen.specs.declared.form.TheConstants.{TASKS, KINDS, LONGEST, LOSS}
use Rattle.lapi_gen.specs.declared.kind.Kind.{Kind}
use Rattle.lapi_gen.specs.declared.kind.Kind.TheVariants.{Put, Get, Rmw, Am}
use Rattle.lapi_gen.specs.declared.batch.Batch.{Batch}
use Rattle.lapi_gen.specs.Draws.{pick, Stream}
use Rattle.lapi_gen.specs.Batches.{most_packets, kind_of, requests_of, answers_of, first_draw, drawn, batch_of, IsBatch, requests}

-- the stream stands before draw i of batch b
pub record Stands (number b i : ℕ) (s : Stream) : Type 0 where
  pub number_is : s.number ≡ number
  pub drawn_is : s.drawn ≡ first_draw b + i

pub next_stands : (number b i : ℕ) (old new : Stream) → Stands number b i old → new ≡ record old { drawn = old.drawn + 1 } → Stands number b (i + 1) new
next_stands number b i old new h e = record {
  number_is = ap (λ (s : Stream). s.number) e ∙ h.number_is;
  drawn_is = ap (λ (s : Stream). s.drawn) e ∙ omega (arith, h.drawn_is);
}

pub value_at : (number b i bound r : ℕ) (old : Stream) → Stands number b i old → r ≡ pick old.number old.drawn bound → r ≡ drawn number b i bound
value_at number b i bound r old h e = e ∙ ap (λ n. pick n old.drawn bound) h.number_is ∙ ap (λ k. pick number k bound) h.drawn_is

pub batch_is : (number b d k len lost most t0 t1 t2 t3 t4 : ℕ) (kind : Kind)
    → d ≡ drawn number b 0 (TASKS - 1) → k ≡ drawn number b 1 KINDS → kind ≡ kind_of k → len ≡ drawn number b 2 (LONGEST + 1) → lost ≡ drawn number b 3 LOSS
    → most ≡ requests_of kind len
    → t0 ≡ drawn number b 4 most → t1 ≡ drawn number b 5 most → t2 ≡ drawn number b 6 most → t3 ≡ drawn number b 7 most → t4 ≡ drawn number b 8 most
    → (let made : Batch = record { distance = 1 + d; kind = kind; len = len; lost = lost; turns = t0 ∷ t1 ∷ t2 ∷ t3 ∷ t4 ∷ [] } in made) ≡ batch_of number b
unfolding batch_of numbers_below below
batch_is number b d k len lost most t0 t1 t2 t3 t4 kind e0 e1 ek e2 e3 em f0 f1 f2 f3 f4 = cc

pub some_requests : (kind : Kind) (len : ℕ) → 0 < requests_of kind len
some_requests Put len = omega arith
some_requests Get len = omega arith
some_requests Rmw len = omega arith
some_requests Am len = omega arith

pub few_requests : (kind : Kind) (len : ℕ) → len ≤ LONGEST → requests_of kind len ≤ most_packets
few_requests Put len h = omega arith
few_requests Get len h = omega arith
few_requests Rmw len h = omega arith
few_requests Am len h = omega arith

pub few_answers : (kind : Kind) (len : ℕ) → len ≤ LONGEST → answers_of kind len ≤ most_packets
few_answers Put len h = omega arith
few_answers Get len h = omega arith
few_answers Rmw len h = omega arith
few_answers Am len h = omega arith

rest_below : (x n : ℕ) → 0 < n → x % n < n
rest_below x n h = omega arith

pub batch_bounds : (number b : ℕ) → IsBatch (batch_of number b)
unfolding batch_of numbers_below below
batch_bounds number b =
    let turn : (x : ℕ) → x % requests (batch_of number b) < requests (batch_of number b) = λ x. rest_below x (requests (batch_of number b)) (some_requests (batch_of number b).kind (batch_of number b).len) in
    record {
      distance = omega arith;
      len = omega arith;
      lost = omega arith;
      turns = (turn _, (turn _, (turn _, (turn _, (turn _, tt)))));
      one_turn_each = refl;
    }
