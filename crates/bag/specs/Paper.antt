-- What `open_bag` answers and leaves in the scratch, by the places of its parts.
use Rattle.std.specs.Prelude.{◌≡◌, ℕ, ◌+◌, ◌*◌, ◌≤◌, ◌<◌, Bool, List, length, take, get_or, Ok, Err}
use Rattle.scheme.specs.Res.{Res, then}
use Rattle.scheme.specs.Bag.{Bag, checksum, links, roots_ok}
use Rattle.laws.specs.Puts.{puts}
use Rattle.bits.specs.Field.{numbers_at}
use Rattle.header.specs.Header.{header_at}
use Rattle.header.specs.declared.Header.{Header}
use Rattle.bag.specs.Places.{IsCell, cells_at, places, scanned}
use Rattle.bag.specs.Links.{extra_ok}
use Rattle.bag.specs.declared.OpenBag.{OpenBag}

-- what follows the cells, whose places the scratch m begins with; they end at place p
unfoldable pub after_scan : List ℕ → Bool → Header → List ℕ → ℕ → Res OpenBag
after_scan b whole h m p =
    then (checksum h.checked b p) λ used.
    then (extra_ok whole used (length b)) λ _.
    then (links 0 h.cells (cells_at b h.size (take h.cells m))) λ _.
    then (roots_ok 0 h.cells (numbers_at b h.size h.roots h.list)) λ _.
    Ok (record { size = h.size; cells = h.cells; roots = h.roots; list = h.list; used = used })

-- the cells at the places that the scratch begins with can be read
abbrev pub AreCells : List ℕ → ℕ → ℕ → List ℕ → Type 0
AreCells b size cells m = (k : ℕ) → k < cells → IsCell b size (get_or m k 0)

-- the scratch s with the places of the cells at its front, up to the first cell that is refused
unfoldable pub marks : List ℕ → Header → List ℕ → List ℕ
marks b h s = puts s 0 (places b h.size h.cells h.first)

-- the cells and what follows them
unfoldable pub opening_cells : List ℕ → Bool → Header → List ℕ → Res OpenBag
opening_cells b whole h s = then (scanned b h.size h.cells h.first) λ p. after_scan b whole h (marks b h s) p

-- the same after the header: the scratch was s and is m
pub record OpensCells (b : List ℕ) (whole : Bool) (h : Header) (s : List ℕ) (r : Res OpenBag) (m : List ℕ) : Type 0 where
  pub answer : r ≡ opening_cells b whole h s
  pub scratch : m ≡ marks b h s

-- the answer, where `rooms` root places are lent and the scratch is s
unfoldable pub opening : List ℕ → Bool → ℕ → List ℕ → Res OpenBag
opening b whole rooms s = then (header_at b (length s) rooms) λ h. opening_cells b whole h s

-- the scratch afterwards: as it was where the header is refused
abbrev pub marked_by : List ℕ → List ℕ → Res Header → List ℕ
marked_by b s (Err r) = s
marked_by b s (Ok h) = marks b h s

unfoldable pub marked : List ℕ → ℕ → List ℕ → List ℕ
marked b rooms s = marked_by b s (header_at b (length s) rooms)

-- what `open_bag` promises: the answer, and every entry of the scratch, which was s and is m. Open has what follows: `opens-bag`, `opens-long`, `opens_kept`
pub record Opens (b : List ℕ) (whole : Bool) (rooms : ℕ) (s : List ℕ) (r : Res OpenBag) (m : List ℕ) : Type 0 where
  pub answer : r ≡ opening b whole rooms s
  pub scratch : m ≡ marked b rooms s

-- the bag that an answer says, where the scratch is m
abbrev pub bag_of : List ℕ → List ℕ → OpenBag → Bag
bag_of b m o = record { used = o.used; cells = cells_at b o.size (take o.cells m); roots = numbers_at b o.size o.roots o.list }

-- what a bag that is opened keeps to, where `rooms` root places are lent
pub record Kept (b : List ℕ) (rooms : ℕ) (m : List ℕ) (o : OpenBag) : Type 0 where
  pub size : o.size ≤ 4
  pub few : o.cells ≤ 4096
  pub scratch : 2 * o.cells ≤ length m
  pub roots : o.roots ≤ rooms
  pub list : o.list + o.roots * o.size ≤ length b
  pub cells : AreCells b o.size o.cells m
