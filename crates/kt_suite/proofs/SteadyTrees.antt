-- A tree that does not change has one result.
use Rattle.std.proofs.Common.{Option, Some, None, Ok, Err, ◌≡◌, ◌≤◌, ◌<◌, ◌+◌, ℕ, List, [], ◌∷◌, ◌++◌, length, arith, refl, sym, subst, ap, ◌∙◌}
use Rattle.kt_suite.proofs.Common.{Contains, Contains-push, Contains-append_left, Contains-append_right, SuiteFault, Program, Asked, IsSameCall, HasStableResults, Site, Mark, CallMark, File, ProgramMark, Fault, HasTreeMarks, file_limit, program_limit, LoadResult, calls_in, files_in, programs_in, faults_in, Decides, is_fault, file_too_many, program_too_many, Registered, all, stopped}
use Rattle.kt_suite.proofs.Agreement.{Agree, both_end, same_mark, both_ask, trees_agree}

-- `Cut files programs marks asked listed fault`: up to the mark that decides, the marks `marks`
-- have the calls `asked` and the programs `listed`, and `fault` is the error of that mark, if there
-- is one. The marks before have `files` files and `programs` programs.
data Cut : ℕ → ℕ → List Mark → List Asked → List Program → Option SuiteFault → Type 0 where
  c_end : (n k : ℕ) → Cut n k [] [] [] None
  c_asks : (n k : ℕ) (q : Asked) (ms : List Mark) (qs : List Asked) (ps : List Program) (f : Option SuiteFault) → Cut n k ms qs ps f → Cut n k (CallMark q ∷ ms) (q ∷ qs) ps f
  c_file : (n k : ℕ) (at : Site) (ms : List Mark) (qs : List Asked) (ps : List Program) (f : Option SuiteFault) → n < file_limit → Cut (n + 1) k ms qs ps f → Cut n k (File at ∷ ms) qs ps f
  c_listed : (n k : ℕ) (at : Site) (p : Program) (ms : List Mark) (qs : List Asked) (ps : List Program) (f : Option SuiteFault) → k < program_limit → Cut n (k + 1) ms qs ps f → Cut n k (ProgramMark at p ∷ ms) qs (p ∷ ps) f
  c_stop : (n k : ℕ) (m : Mark) (ms : List Mark) (fault : SuiteFault) → Decides n k m fault → Cut n k (m ∷ ms) [] [] (Some fault)

abbrev pub outcome_of : List Program → Option SuiteFault → LoadResult
outcome_of ps None = Ok ps
outcome_of ps (Some fault) = Err fault

-- `Alike qs rs`: the same call at the same position has the same result in the lists `qs` and `rs`.
abbrev Alike : List Asked → List Asked → Type 0
Alike [] rs = Unit {0}
Alike (q ∷ qs) [] = Unit {0}
Alike (q ∷ qs) (r ∷ rs) = (IsSameCall q r → q ≡ r) × Alike qs rs

head_of : (q : Asked) (qs : List Asked) → Contains (q ∷ qs) q
head_of q qs = Contains-append_left (q ∷ []) qs q (Contains-push [] q)

tail_of : (q x : Asked) (qs : List Asked) → Contains qs x → Contains (q ∷ qs) x
tail_of q x qs h = Contains-append_right (q ∷ []) qs x h

alike_sure : (qs rs : List Asked) → ((x y : Asked) → Contains qs x → Contains rs y → IsSameCall x y → x ≡ y) → Alike qs rs
alike_sure [] rs s = tt
alike_sure (q ∷ qs) [] s = tt
alike_sure (q ∷ qs) (r ∷ rs) s = (λ e. s q r (head_of q qs) (head_of r rs) e, alike_sure qs rs (λ x y h k e. s x y (tail_of q x qs h) (tail_of r y rs k) e))

alike_same : (qs : List Asked) → Alike qs qs
alike_same [] = tt
alike_same (q ∷ qs) = (λ e. refl, alike_same qs)

decides_once : (n k : ℕ) (m : Mark) (f g : SuiteFault) → Decides n k m f → Decides n k m g → f ≡ g
decides_once n k _ _ _ (is_fault f) (is_fault _) = refl
decides_once n k _ _ _ (file_too_many at h) (file_too_many _ i) = refl
decides_once n k _ _ _ (program_too_many at p h) (program_too_many _ _ i) = refl

abbrev SameEnd : List Program → Option SuiteFault → List Program → Option SuiteFault → Type 0
SameEnd ps f os g = (ps ≡ os) × (f ≡ g)

with_program : (p : Program) (ps os : List Program) (f g : Option SuiteFault) → SameEnd ps f os g → SameEnd (p ∷ ps) f (p ∷ os) g
with_program p ps os f g e = (ap (λ (xs : List Program). p ∷ xs) e.0, e.1)

cuts_same : (n k : ℕ) (ms ns : List Mark) (qs rs : List Asked) (ps os : List Program) (f g : Option SuiteFault) → Agree ms ns → Alike qs rs → Cut n k ms qs ps f → Cut n k ns rs os g → SameEnd ps f os g
cuts_same n k _ _ _ _ _ _ _ _ both_end s (c_end _ _) (c_end _ _) = (refl, refl)
cuts_same n k _ _ _ _ ps os f g (same_mark _ _ _ a) s (c_asks _ _ q ms qs _ _ c) (c_asks _ _ _ ns rs _ _ d) = cuts_same n k ms ns qs rs ps os f g a s.1 c d
cuts_same n k _ _ _ _ ps _ f _ (same_mark _ _ _ a) s (c_asks _ _ q ms qs _ _ c) (c_stop _ _ _ ns y d) = elim d [ ]
cuts_same n k _ _ qs rs ps os f g (same_mark _ _ _ a) s (c_file _ _ at ms _ _ _ l c) (c_file _ _ _ ns _ _ _ h d) = cuts_same (n + 1) k ms ns qs rs ps os f g a s c d
cuts_same n k _ _ qs _ ps _ f _ (same_mark _ _ _ a) s (c_file _ _ at ms _ _ _ l c) (c_stop _ _ _ ns _ (file_too_many _ h)) = absurd (omega (arith, l, h))
cuts_same n k _ _ qs rs _ _ f g (same_mark _ _ _ a) s (c_listed _ _ at p ms _ ps _ l c) (c_listed _ _ _ _ ns _ os _ h d) = with_program p ps os f g (cuts_same n (k + 1) ms ns qs rs ps os f g a s c d)
cuts_same n k _ _ qs _ _ _ f _ (same_mark _ _ _ a) s (c_listed _ _ at p ms _ ps _ l c) (c_stop _ _ _ ns _ (program_too_many _ _ h)) = absurd (omega (arith, l, h))
cuts_same n k _ _ _ _ _ os _ g (same_mark _ _ _ a) s (c_stop _ _ _ ms x d) (c_asks _ _ q ns rs _ _ c) = elim d [ ]
cuts_same n k _ _ _ rs _ os _ g (same_mark _ _ _ a) s (c_stop _ _ _ ms _ (file_too_many _ h)) (c_file _ _ at ns _ _ _ l c) = absurd (omega (arith, l, h))
cuts_same n k _ _ _ rs _ _ _ g (same_mark _ _ _ a) s (c_stop _ _ _ ms _ (program_too_many _ _ h)) (c_listed _ _ at p ns _ os _ l c) = absurd (omega (arith, l, h))
cuts_same n k _ _ _ _ _ _ _ _ (same_mark m _ _ a) s (c_stop _ _ _ ms x d) (c_stop _ _ _ ns y e) = (refl, ap Some (decides_once n k m x y d e))
cuts_same n k _ _ _ _ ps os f g (both_ask q r _ _ e a) s (c_asks _ _ _ ms qs _ _ c) (c_asks _ _ _ ns rs _ _ d) =
    cuts_same n k ms ns qs rs ps os f g (a (s.0 e)) s.1 c d
cuts_same n k _ _ _ _ ps _ f _ (both_ask q r _ _ e a) s (c_asks _ _ _ ms qs _ _ c) (c_stop _ _ _ ns y d) = elim d [ ]
cuts_same n k _ _ _ _ _ os _ g (both_ask q r _ _ e a) s (c_stop _ _ _ ms x d) (c_asks _ _ _ ns rs _ _ c) = elim d [ ]
cuts_same n k _ _ _ _ _ _ _ _ (both_ask q r _ _ e a) s (c_stop _ _ _ ms x d) (c_stop _ _ _ ns y h) = elim d [ ]

cut_all : (n k : ℕ) (ms : List Mark) → faults_in ms ≡ [] → n + files_in ms ≤ file_limit → k + length (programs_in ms) ≤ program_limit → Cut n k ms (calls_in ms) (programs_in ms) None
cut_all n k [] e f p = c_end n k
cut_all n k (CallMark q ∷ ms) e f p = c_asks n k q ms _ _ _ (cut_all n k ms e f p)
cut_all n k (File at ∷ ms) e f p = c_file n k at ms _ _ _ (omega (arith, f)) (cut_all (n + 1) k ms e (omega (arith, f)) p)
cut_all n k (ProgramMark at x ∷ ms) e f p = c_listed n k at x ms _ _ _ (omega (arith, p)) (cut_all n (k + 1) ms e f (omega (arith, p)))
cut_all n k (Fault x ∷ ms) e f p = absurd (cc)

cut_front : (n k : ℕ) (ms back : List Mark) (m : Mark) (fault : SuiteFault) (u v : ℕ) → u ≡ n + files_in ms → v ≡ k + length (programs_in ms) → faults_in ms ≡ [] → u ≤ file_limit → v ≤ program_limit → Decides u v m fault
    → (ps : List Program) × Cut n k (ms ++ m ∷ back) (calls_in ms) ps (Some fault)
cut_front n k [] back m fault u v a b e f p d =
    let a' : u ≡ n = omega (arith, a) in
    let b' : v ≡ k = omega (arith, b) in
    ([], c_stop n k m back fault (subst (λ (y : ℕ). Decides n y m fault) b' (subst (λ (x : ℕ). Decides x v m fault) a' d)))
cut_front n k (CallMark q ∷ ms) back m fault u v a b e f p d = let c = cut_front n k ms back m fault u v a b e f p d in (c.0, c_asks n k q _ _ _ _ c.1)
cut_front n k (File at ∷ ms) back m fault u v a b e f p d = let c = cut_front (n + 1) k ms back m fault u v (omega (arith, a)) b e f p d in (c.0, c_file n k at _ _ _ _ (omega (arith, a, f)) c.1)
cut_front n k (ProgramMark at x ∷ ms) back m fault u v a b e f p d = let c = cut_front n (k + 1) ms back m fault u v a (omega (arith, b)) e f p d in (x ∷ c.0, c_listed n k at x _ _ _ _ (omega (arith, b, p)) c.1)
cut_front n k (Fault x ∷ ms) back m fault u v a b e f p d = absurd (cc)

-- `Comes asked root result`: the result `result` and the calls `asked` are those of the marks of
-- the tree with the root Kyuafile `root`, up to the mark that decides.
data Comes (asked : List Asked) (root : List ℕ) : LoadResult → Type 0 where
  comes : (ms : List Mark) (ps : List Program) (f : Option SuiteFault) → HasTreeMarks root ms → Cut 0 0 ms asked ps f → Comes asked root (outcome_of ps f)

comes_from : (asked : List Asked) (root : List ℕ) (x : LoadResult) → Registered asked root x → Comes asked root x
comes_from asked root _ (all ms g u e) =
    let f = u.files in
    let p = u.programs in
    comes ms (programs_in ms) None g (subst (λ (qs : List Asked). Cut 0 0 ms qs (programs_in ms) None) (sym e) (cut_all 0 0 ms u.faultless (omega (arith, f)) (omega (arith, p))))
comes_from asked root _ (stopped front back m fault g u d e) =
    let c = cut_front 0 0 front back m fault (files_in front) (length (programs_in front)) (omega arith) (omega arith) u.faultless u.files u.programs d in
    comes (front ++ m ∷ back) c.0 (Some fault) g (subst (λ (qs : List Asked). Cut 0 0 (front ++ m ∷ back) qs c.0 (Some fault)) (sym e) c.1)

one_end : (first second : List Asked) (root : List ℕ) (x y : LoadResult) → Alike first second → Comes first root x → Comes second root y → x ≡ y
one_end first second root _ _ s (comes ms ps f g c) (comes ns os h i d) =
    let e = cuts_same 0 0 ms ns first second ps os f h (trees_agree root ms ns g i) s c d in
    ap (λ (z : List Program). outcome_of z f) e.0 ∙ ap (λ (z : Option SuiteFault). outcome_of os z) e.1

pub one_meaning_twice : (first second : List Asked) (root : List ℕ) (x y : LoadResult) → HasStableResults (first ++ second) → Registered first root x → Registered second root y → x ≡ y
one_meaning_twice first second root x y s h k =
    one_end first second root x y (alike_sure first second (λ p q i j e. s p q (Contains-append_left first second p i) (Contains-append_right first second q j) e)) (comes_from first root x h) (comes_from second root y k)

pub one_meaning : (asked : List Asked) (root : List ℕ) (x y : LoadResult) → Registered asked root x → Registered asked root y → x ≡ y
one_meaning asked root x y h k = one_end asked asked root x y (alike_same asked) (comes_from asked root x h) (comes_from asked root y k)
