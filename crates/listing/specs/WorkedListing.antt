-- Listings worked by hand.
use Rattle.std.specs.Prelude.{◌≡◌, ℕ, List, [], ◌∷◌, ◌++◌, codes}
use Rattle.listing.specs.Whole.{whole_listing}

-- A line of text.
abbrev pub line : List ℕ → List ℕ
line text = text ++ (10 ∷ [])

-- Three modules, 4 × 2, 3 × 3 and 5 × 1.
abbrev pub three_sizes : List ℕ
three_sizes = line (codes "       4       2") ++ line (codes "       3       3") ++ line (codes "       5       1")

-- Two of them beside each other under the third, by a head, a sequence and a script.
abbrev pub three_under : List ℕ → List ℕ → List ℕ → List ℕ
three_under head places script =
    line (head ++ codes "   3") ++ line (codes ".hv") ++ line (codes "..v") ++ line (codes "...") ++ line places ++ script

-- The two stand one above the other on trial, as it was again after an undo.
abbrev pub move_script : List ℕ
move_script = line (codes "MOVE   0   1") ++ line (codes "PACK") ++ line (codes "UNDO") ++ line (codes "KEEP")

abbrev pub moved_listing : List ℕ
moved_listing =
    line (codes "MOVE   0")
    ++ line (codes "PACK   0")
    ++ line (codes "CHIP         5         6              30")
    ++ line (codes "   0         0         0")
    ++ line (codes "   1         0         2")
    ++ line (codes "   2         0         5")
    ++ line (codes "EDGE   1   3")
    ++ line (codes "UNDO   0")
    ++ line (codes "KEEP  30")

-- Under the head SIDE the same table has its axes exchanged; refusals of several numbers, and a trial open at the end.
abbrev pub turn_script : List ℕ
turn_script =
    line (codes "TURN   1") ++ line (codes "SWAP   0   2") ++ line (codes "PACK") ++ line (codes "KEEP")
    ++ line (codes "FLIP   1   0") ++ line (codes "MOVE   3   0") ++ line (codes "SWAP   2   2") ++ line (codes "MOVE   0   1")

abbrev pub turned_listing : List ℕ
turned_listing =
    line (codes "TURN   0")
    ++ line (codes "SWAP  20")
    ++ line (codes "PACK   0")
    ++ line (codes "CHIP         9         5              45")
    ++ line (codes "   0         0         0")
    ++ line (codes "   1         0         2")
    ++ line (codes "   2         4         0")
    ++ line (codes "EDGE   2   2")
    ++ line (codes "KEEP   0")
    ++ line (codes "FLIP  23")
    ++ line (codes "MOVE  21")
    ++ line (codes "SWAP  22")
    ++ line (codes "MOVE   0")

-- What the definition gives for each.
pub record WorkedListings : Type 0 where
  pub moved : whole_listing three_sizes (three_under (codes "PLAN") (codes "   0   1   2") move_script) ≡ moved_listing
  pub turned : whole_listing three_sizes (three_under (codes "SIDE") (codes "   0   1   2") turn_script) ≡ turned_listing
  -- a fault of a script line stops, and what was printed before it stays
  pub stopped :
      whole_listing three_sizes (three_under (codes "PLAN") (codes "   0   1   2") (line (codes "KEEP") ++ line (codes "STOP") ++ line (codes "PACK")))
      ≡ line (codes "KEEP  30") ++ line (codes "FAIL  62   2     7     1")
  -- a last line without its end
  pub unended :
      whole_listing three_sizes (three_under (codes "PLAN") (codes "   0   1   2") (codes "PACK")) ≡ line (codes "FAIL  61   2     6     1")
  -- a sequence against an edge, and one that names a module twice
  pub against : whole_listing three_sizes (three_under (codes "PLAN") (codes "   1   0   2") []) ≡ line (codes "FAIL  16   2     2     2")
  pub twice : whole_listing three_sizes (three_under (codes "PLAN") (codes "   1   1   2") []) ≡ line (codes "FAIL  15   2     5     5")
  -- no modules
  pub none :
      whole_listing [] (line (codes "PLAN   0") ++ line [] ++ line (codes "PACK"))
      ≡ line (codes "PACK   0") ++ line (codes "CHIP         0         0               0") ++ line (codes "EDGE   0   0")
