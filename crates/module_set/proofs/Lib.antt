-- What the bits of a number tell, the members of a set by them, and taking them out.
pub mod Bits
pub mod Membership
pub mod Taking
