-- The laws of kinds of length: the later of two is a least upper bound, and plain and counted lengths are lawful.
use Rattle.std.proofs.Common.{◌≡◌, ◌<◌, ◌≤◌, max, Bool, true, false, ◌⊎◌, refl, inl, inr, arith}
use Rattle.std.proofs.lemmas.Bool.Decides.{nat_tests}
use Rattle.plans.specs.Kinds.{Kind, AtMost, SumLaws, TotalLaws, JoinLaws, Lawful, Count, count_at_most, plain_kind, counted_kind}
use Rattle.plans.specs.LaterOfTwo.{LaterLaws}

module _ {L : Type 0} (K : Kind L) (sum : SumLaws K) (total : TotalLaws K) where
  -- a fact of two lengths, by which of them is at most the other
  by_order :
      (P : L → L → Type 0) → ((a b : L) → AtMost K a b → K.later a b ≡ b → P a b)
      → ((a b : L) → AtMost K b a → K.later a b ≡ a → P a b) → (a b : L) → P a b
  by_order P f g a b =
      elim (total.compares a b) [ inl h ↦ f a b h (total.second a b h) | inr h ↦ g a b h (total.first a b h) ]

  -- the later of two is their least upper bound, and one of the two
  pub later_laws : LaterLaws K
  later_laws =
      record {
        join = record {
          left = by_order (λ a b. AtMost K a (K.later a b)) (λ a b h e. rw e h) (λ a b h e. rw e (sum.reflexive a));
          right = by_order (λ a b. AtMost K b (K.later a b)) (λ a b h e. rw e (sum.reflexive b)) (λ a b h e. rw e h);
          least = λ a b c h k.
              by_order (λ a b. AtMost K a c → AtMost K b c → AtMost K (K.later a b) c)
              (λ a b l e h k. rw e k) (λ a b l e h k. rw e h) a b h k;
          extents =
              by_order (λ a b. K.reach (K.later a b) ≡ max (K.reach a) (K.reach b))
              (λ a b h e. rw e (omega (arith, sum.wider a b h))) (λ a b h e. rw e (omega (arith, sum.wider b a h)));
        };
        picks = by_order (λ a b. (K.later a b ≡ a) ⊎ (K.later a b ≡ b)) (λ a b h e. inr e) (λ a b h e. inl e);
      }

-- so in a lawful kind
pub lawful_later : {L : Type 0} (K : Kind L) → Lawful K → LaterLaws K
lawful_later K law = later_laws K law.sum law.total

pub join_laws : {L : Type 0} (K : Kind L) → Lawful K → JoinLaws K
join_laws K law = (lawful_later K law).join

-- plain lengths are lawful
pub plain_lawful : Lawful plain_kind
plain_lawful =
    record {
      sum = record {
        reflexive = λ a. grind (arith, nat_tests);
        transitive = λ a b c h k. grind (arith, nat_tests);
        antisymmetric = λ a b h k. grind (arith, nat_tests);
        starts = λ a. grind (arith, nat_tests);
        grows = λ a b l. grind (arith, nat_tests);
        ordered = λ a b s l h. grind (arith, nat_tests);
        exceeds = λ a s p l. grind (arith, nat_tests);
        sums = λ a b l. refl;
        empty = refl;
        wider = λ a b h. grind (arith, nat_tests);
      };
      total = record {
        compares = λ a b. grind (arith, nat_tests);
        second = λ a b h. rw h refl;
        first = λ a b h. grind (arith, nat_tests);
      };
    }

-- two counted lengths with the same numbers are equal
count_same : (a b : Count) → a.long ≡ b.long → a.borders ≡ b.borders → a ≡ b
count_same a b p q = λ i. record { long = p i; borders = q i }

-- what the order of counted lengths tells
pub count_tells :
    (a b : Count) → ((count_at_most a b ≡ true) × ((a.long < b.long) ⊎ ((a.long ≡ b.long) × (a.borders ≤ b.borders))))
    ⊎ ((count_at_most a b ≡ false) × ((b.long < a.long) ⊎ ((a.long ≡ b.long) × (b.borders < a.borders))))
count_tells a b = grind (arith, nat_tests)

later_first :
    (a b : Count) → count_at_most b a ≡ true → (r : Bool) → count_at_most a b ≡ r → counted_kind.later a b ≡ a
later_first a b h true e = rw e (count_same b a (grind (arith, nat_tests)) (grind (arith, nat_tests)))
later_first a b h false e = rw e refl

-- counted lengths are lawful
pub counted_lawful : Lawful counted_kind
counted_lawful =
    record {
      sum = record {
        reflexive = λ a. grind (arith, nat_tests);
        transitive = λ a b c h k. grind (arith, nat_tests);
        antisymmetric = λ a b h k. count_same a b (grind (arith, nat_tests)) (grind (arith, nat_tests));
        starts = λ a. grind (arith, nat_tests);
        grows = λ a b l. grind (arith, nat_tests);
        ordered = λ a b s l h. grind (arith, nat_tests);
        exceeds = λ a s p l. grind (arith, nat_tests);
        sums = λ a b l. refl;
        empty = refl;
        wider = λ a b h. grind (arith, nat_tests);
      };
      total = record {
        compares = λ a b. grind (arith, nat_tests);
        second = λ a b h. rw h refl;
        first = λ a b h. later_first a b h (count_at_most a b) refl;
      };
    }
