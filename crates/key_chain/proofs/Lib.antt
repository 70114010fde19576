mod Masking
mod Halves
mod Roots
mod Claims
mod Books
