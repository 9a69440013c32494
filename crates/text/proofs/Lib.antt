-- What the proofs of several functions use.
mod Digits
mod Texts
mod Printing
