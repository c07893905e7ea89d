mod Covered
mod FirstFragments
