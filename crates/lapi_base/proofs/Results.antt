-- What follows from a fact of an answer.
use Rattle.std.specs.Prelude.{Result, Ok, Err, OnOk, IfOk}

-- what follows from a fact of the answer Ok
pub on-ok : {A B : Type 0} (P Q : Type 0) (result : Result A B) → (P → Q) → OnOk result P → OnOk result Q
on-ok P Q (Ok x) f h = f h
on-ok P Q (Err e) f h = h

pub on-oks : {A B : Type 0} (P Q R : Type 0) (result : Result A B) → (P → Q → R) → OnOk result P → OnOk result Q → OnOk result R
on-oks P Q R (Ok x) f h g = f h g
on-oks P Q R (Err e) f h g = h

-- what follows from a fact of what an Ok holds
pub if-ok : {A B : Type 0} (P Q : A → Type 0) (result : Result A B) → ((x : A) → P x → Q x) → IfOk result P → IfOk result Q
if-ok P Q (Ok x) f h = f x h
if-ok P Q (Err e) f h = h
