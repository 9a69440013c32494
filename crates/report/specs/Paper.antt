-- What a report promises, that the promise leaves one outcome, and that it tells what the program prints where the memory is the program's.
-- Assumes nothing.
use Rattle.std.specs.Prelude.{◌≡◌, refl, Bool, true, false, cond, ℕ, List, [], length, leb}
use Rattle.std.proofs.Common.{◌∙◌}
use Rattle.scheme.specs.Memory.{sized}
use Rattle.scheme.specs.Bag.{read, read_scratch}
use Rattle.scheme.specs.Calls.{onto}
use Rattle.scheme.specs.Program.{read_lines, max_input, printed, told, afresh, reporting}
use Rattle.laws.specs.OneAnswer.{one-content}

-- a text of length r, at the front of the output o if it fits there
pub record Tells (text o : List ℕ) (r : ℕ) (o' : List ℕ) : Type 0 where
  pub len : r ≡ length text
  pub out : o' ≡ cond (leb (length text) (length o)) (onto text o) o

-- the promise of `report`: its answer, and all lent memory afterwards. The scratch was s, the root places were rs, the output was o
pub record Reports (n : ℕ) (t d s rs o reply : List ℕ) (r n' : ℕ) (t' d' s' rs' o' : List ℕ) : Type 0 where
  pub len : r ≡ (reporting n t d s rs o reply).len
  pub count : n' ≡ (reporting n t d s rs o reply).count
  pub table : t' ≡ (reporting n t d s rs o reply).table
  pub bytes : d' ≡ (reporting n t d s rs o reply).bytes
  pub scratch : s' ≡ (reporting n t d s rs o reply).scratch
  pub roots : rs' ≡ (reporting n t d s rs o reply).roots
  pub out : o' ≡ (reporting n t d s rs o reply).out

-- two outcomes that keep the promise are the same: the answer, the count and every lent number and byte
pub record Same (r q n m : ℕ) (t u d e s z rs zs o x : List ℕ) : Type 0 where
  pub len : r ≡ q
  pub count : n ≡ m
  pub table : t ≡ u
  pub bytes : d ≡ e
  pub scratch : s ≡ z
  pub roots : rs ≡ zs
  pub out : o ≡ x

module _ (n : ℕ) (t d s rs o reply : List ℕ) where
  pub unique : (r n' : ℕ) (t' d' s' rs' o' : List ℕ) (q n'' : ℕ) (t'' d'' s'' rs'' o'' : List ℕ)
      → Reports n t d s rs o reply r n' t' d' s' rs' o' → Reports n t d s rs o reply q n'' t'' d'' s'' rs'' o'' → Same r q n' n'' t' t'' d' d'' s' s'' rs' rs'' o' o''
  unique r n' t' d' s' rs' o' q n'' t'' d'' s'' rs'' o'' a b = record {
    len = one-content a.len b.len;
    count = one-content a.count b.count;
    table = one-content a.table b.table;
    bytes = one-content a.bytes b.bytes;
    scratch = one-content a.scratch b.scratch;
    roots = one-content a.roots b.roots;
    out = one-content a.out b.out;
  }

-- ---- the program

told_text : (x : Bool) (n m : ℕ) (t u d e s rs zs o a b : List ℕ) → let r = cond x (told n t d s rs o a) (told m u e s zs o b) in
    (r.len ≡ length (cond x a b)) × (r.out ≡ cond (leb (length (cond x a b)) (length o)) (onto (cond x a b) o) o)
told_text true n m t u d e s rs zs o a b = (refl, refl)
told_text false n m t u d e s rs zs o a b = (refl, refl)

module _ (n : ℕ) (t d s rs o reply : List ℕ) (et : length t ≡ 896) (ed : length d ≡ 16384) (es : length s ≡ 256) (er : length rs ≡ 16) where
  lines_are : read_lines (afresh t d (length s) (length rs) reply) ≡ read_lines (read true (read_scratch 128) 16 128 [] reply)
  unfolding afresh sized
  lines_are = rw (et, ed, es, er)

  text-is : ((reporting n t d s rs o reply).len ≡ length (printed reply))
      × ((reporting n t d s rs o reply).out ≡ cond (leb (length (printed reply)) (length o)) (onto (printed reply) o) o)
  unfolding reporting printed
  text-is = rw (← lines_are) (told_text (leb (length reply) max_input) _ n _ t _ d s _ rs o _ _)

  -- with a store of 128 cells, scratch for 128 bag cells and 16 root places, what is told is what the program prints
  pub tells-printed : (r n' : ℕ) (t' d' s' rs' o' : List ℕ) → Reports n t d s rs o reply r n' t' d' s' rs' o' → Tells (printed reply) o r o'
  tells-printed r n' t' d' s' rs' o' R = record { len = R.len ∙ text-is.0; out = R.out ∙ text-is.1 }
