mod Fees
