mod Claims
mod PlacedRows
