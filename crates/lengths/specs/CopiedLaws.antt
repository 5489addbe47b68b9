-- A kind of length is lawful where its lengths are told by those of a lawful kind.
use Rattle.std.specs.Prelude.{◌≡◌, ◌+◌, ◌≤◌, true}
use Rattle.std.proofs.Common.{sym, ◌∙◌, inl, inr}
use Rattle.plans.specs.CarriedPackings.{Carries}
use Rattle.plans.specs.Kinds.{Kind, AtMost, Lawful, possible_side, sum_limit}

module _ {L M : Type 0} (K : Kind L) (N : Kind M) (h : L → M) (carries : Carries K N h) where
  module _ (order : (a b : L) → N.at_most (h a) (h b) ≡ K.at_most a b) (same : (a b : L) → h a ≡ h b → a ≡ b) (law : Lawful N) where
    -- "at most" and the bound on a sum, there and back
    here : (a b : L) → AtMost N (h a) (h b) → AtMost K a b
    here a b p = rw (order a b) at p

    there : (a b : L) → AtMost K a b → AtMost N (h a) (h b)
    there a b p = rw (order a b) p

    small : (a b : L) → K.reach a + K.reach b ≤ sum_limit → N.reach (h a) + N.reach (h b) ≤ sum_limit
    small a b l = rw (carries.extents a, carries.extents b) l

    side : (s : L) → possible_side K s ≡ true → possible_side N (h s) ≡ true
    side s p = rw (carries.extents s) p

    pub copied_lawful : Lawful K
    copied_lawful =
        record {
          sum = record {
            reflexive = λ a. here a a (law.sum.reflexive (h a));
            transitive = λ a b c p q. here a c (law.sum.transitive (h a) (h b) (h c) (there a b p) (there b c q));
            antisymmetric = λ a b p q. same a b (law.sum.antisymmetric (h a) (h b) (there a b p) (there b a q));
            starts = λ a. here K.origin a (rw carries.zero (law.sum.starts (h a)));
            grows = λ a b l. here a (K.plus a b) (rw (carries.sums a b) (law.sum.grows (h a) (h b) (small a b l)));
            ordered = λ a b s l p.
                here (K.plus a s) (K.plus b s)
                (rw (carries.sums a s, carries.sums b s) (law.sum.ordered (h a) (h b) (h s) (small b s l) (there a b p)));
            exceeds = λ a s p l.
                sym (order (K.plus a s) a)
                ∙ rw (carries.sums a s) (law.sum.exceeds (h a) (h s) (side s p) (small a s l));
            sums = λ a b l.
                sym (carries.extents (K.plus a b))
                ∙ rw (carries.sums a b, ← carries.extents a, ← carries.extents b) (law.sum.sums (h a) (h b) (small a b l));
            empty = sym (carries.extents K.origin) ∙ rw carries.zero law.sum.empty;
            wider = λ a b p. rw (← carries.extents a, ← carries.extents b) (law.sum.wider (h a) (h b) (there a b p));
          };
          total = record {
            compares = λ a b. elim (law.total.compares (h a) (h b)) [ inl p ↦ inl (here a b p) | inr p ↦ inr (here b a p) ];
            second = λ a b p. same (K.later a b) b (carries.joins a b ∙ law.total.second (h a) (h b) (there a b p));
            first = λ a b p. same (K.later a b) a (carries.joins a b ∙ law.total.first (h a) (h b) (there b a p));
          };
        }
